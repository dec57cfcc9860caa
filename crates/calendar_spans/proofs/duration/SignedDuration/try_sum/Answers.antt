use Rattle.std.proofs.Common.{arith, rules, refl, ◌∙◌, sym, ◌≡◌, [], ◌∷◌, ◌++◌}
use Rattle.std.proofs.Math.Seq.{take-nil}
use Rattle.std.proofs.lemmas.Int.{ints}
use Rattle.calendar_spans.specs.DurationParts.{duration_nanos}
use Rattle.calendar_spans.specs.DurationSum.{total}
use Rattle.calendar_spans.proofs.SumLemmas.{yields_more, total_more, partial_sums_more}
use Rattle.calendar_spans.proofs.duration.SignedDuration.try_sum.Goals as goal

pub loop-duration-init : goal.loop-duration-init
unfolding duration_nanos
loop-duration-init g c =
    record {
      can = rw c.into_iter-duration-iterator.ensures.into_iter_gives c.requires.can;
      ends = rw c.into_iter-duration-iterator.ensures.into_iter_gives c.requires.finite;
      sum = refl;
      prefixes = λ n. rw (take-nil n) (omega (arith, ints), omega (arith, ints));
    }

pub returns-in_default-clause-none : goal.returns-in_default-clause-none
returns-in_default-clause-none g c =
    let none = c.in_default.ensures in
    let step = c.in-Some.ensures in
    let more = total_more c.loop-duration.yielded c.in-Some.duration c.loop-duration.sum c.loop-duration.invariant.sum in
    let run = yields_more g.I.Iterator.next_gives c.into_iter-duration-iterator.result c.loop-duration.yielded c.loop-duration.duration-iterator c.in-Some.duration c.next.new.self c.loop-duration.yielded_by step.steps in
    (c.loop-duration.yielded ++ c.in-Some.duration ∷ [], c.next.new.self, rw c.into_iter-duration-iterator.ensures.into_iter_gives at run, λ fits. let e = none.some.1 (rw more at fits) in cc)

pub loop-duration-preserved : goal.loop-duration-preserved
loop-duration-preserved g c =
    let fits = c.in-Some-checked_add.ensures.some.0 refl in
    let sum : c.in-Some-checked_add.larger ≡ total (c.loop-duration.yielded ++ c.in-Some.duration ∷ []) = c.in-Some-checked_add.ensures.value ∙ sym (total_more c.loop-duration.yielded c.in-Some.duration c.loop-duration.sum c.loop-duration.invariant.sum) in
    record {
      can = search rules;
      ends = search rules;
      sum = sum;
      prefixes = partial_sums_more c.loop-duration.yielded c.in-Some.duration c.loop-duration.invariant.prefixes (rw (← c.in-Some-checked_add.ensures.value, sum) at fits);
    }

pub returns-clause-some : goal.returns-clause-some
returns-clause-some g c =
    let run = rw c.into_iter-duration-iterator.ensures.into_iter_gives at c.loop-duration.yielded_by in
    (c.loop-duration.yielded, (c.next.new.self, (c.loop-duration.duration-iterator, run, c.in-None.ensures.steps)), c.loop-duration.invariant.sum, c.loop-duration.invariant.prefixes)
