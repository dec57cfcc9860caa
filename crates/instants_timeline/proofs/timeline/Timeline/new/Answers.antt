use Rattle.std.proofs.Common.{◌≡◌, ◌+◌, [], ◌∷◌, ◌++◌, map, subst, arith, rules}
use Rattle.std.specs.Vec.{vec_len}
use Rattle.std.proofs.lemmas.List.{length-append, map-append}
use Rattle.std.proofs.lemmas.List.Sums.{sum_by_push}
use Rattle.instants_sources.specs.Grammar.{grammar_of}
use Rattle.instants_sources.specs.Tried.{nodes_in}
use Rattle.instants_words.specs.Sources.{said_by}
use Rattle.instants_faults.specs.Refusals.{refused_at}
use Rattle.instants_timeline.specs.Sources.{IsRefusal}
use Rattle.instants_timeline.proofs.Means.{mean_index, refused_index}
use Rattle.instants_timeline.proofs.timeline.Timeline.new.Goals as goal

pub returns-in-Err-clause-refused : goal.returns-in-Err-clause-refused
returns-in-Err-clause-refused c =
    let place : c.loop-text.text-index ≡ vec_len c.loop-text.read = omega (arith, c.loop-text.read.ok, c.loop-text.invariant.count) in
    let next = refused_index c.args.sources.now c.loop-text.text-index _ (map grammar_of c.loop-text.read.items) c.in-Err.fault c.loop-text-test.true c.loop-text.invariant.mean c.in-Err.ensures.refused in
    rw (c.refused.ensures, c.len.ensures) (subst (λ n. IsRefusal (map said_by c.args.sources.now) (refused_at (n + 1) c.in-Err.fault)) place next)

pub loop-text-preserved : goal.loop-text-preserved
loop-text-preserved c =
    let pushed : c.push.new.items.items ≡ c.loop-text.read.items ++ c.in-Ok.source ∷ [] = search rules in
    let before = map grammar_of c.loop-text.read.items in
    let one = grammar_of c.in-Ok.source in
    record {
      count = rw pushed (rw (length-append c.loop-text.read.items (c.in-Ok.source ∷ [])) (omega (arith, c.loop-text.invariant.count)));
      mean = rw (pushed, map-append grammar_of c.loop-text.read.items (c.in-Ok.source ∷ []))
          (mean_index c.args.sources.now c.loop-text.text-index _ before one c.loop-text-test.true c.loop-text.invariant.mean c.in-Ok.ensures.means);
      few = rw (pushed, map-append grammar_of c.loop-text.read.items (c.in-Ok.source ∷ []))
          (omega (arith, sum_by_push nodes_in before one, c.loop-text.invariant.few, c.in-Ok.ensures.few));
    }
