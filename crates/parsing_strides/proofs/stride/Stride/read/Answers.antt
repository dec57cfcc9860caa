use Rattle.std.proofs.Common.{◌∙◌, drop, ap, get_or, arith}
use Rattle.std.proofs.lemmas.List.{take_rest}
use Rattle.parsing_combinator.proofs.lemmas.Tame.{joined, dropped}
use Rattle.parsing_strides.proofs.StrideLemmas.{Took, took, stride_said, stride_kept}
use Rattle.parsing_strides.proofs.stride.Stride.read.Goals as goal

pub returns : goal.returns
returns c =
    let s = c.args.self.now in
    let text = c.args.rest.now in
    let old = c.args.found.now in
    let new = c.put_lanes.new.self in
    let put = c.put_lanes.ensures in
    let there : Took s text old new =
    took s text c.first_sixteen.result c.all_above-above.result c.taken_by.result c.taken_by-2.result c.numbers_of-numbers.result old new s.few (omega (arith, c.if-rest-self.false)) (λ k. omega (arith, c.type_inv.rest k))
    c.first_sixteen.ensures c.all_above-above.ensures.above (c.are_at_most.ensures c.if-not-are_at_most.false)
    c.taken_by.ensures.taken c.taken_by.ensures.none c.taken_by-2.ensures.taken c.numbers_of-numbers.ensures (λ k lt small. ap (λ l. get_or l k 0) put.lanes ∙ c.put_taken-lanes.ensures.taken k lt small)
    (λ k lt large. ap (λ l. get_or l k 0) put.lanes ∙ c.put_taken-lanes.ensures.kept k lt large) (λ lt. rw put.year (c.year_in-year.ensures.there lt)) (λ le. put.year ∙ c.year_in-year.ensures.nowhere le) put.fraction put.unix in
    record {
      says = λ parts fits. rw (take_rest text s.length) (stride_said there parts s.few fits);
      kept = λ parts fits. stride_kept there parts fits;
      end = rw (take_rest text s.length) (joined c.args.line.now text (drop s.length text) c.requires (dropped s.length text));
    }
