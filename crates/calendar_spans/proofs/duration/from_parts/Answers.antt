use Rattle.std.proofs.Common.{arith, refl, ◌∙◌, ◌≡◌, ◌<◌, ◌^◌, true, ℤ, pos, ◌+ℤ◌, ◌*ℤ◌, int_div, int_rem, unsigned_abs, to_z, of_z, to_z-of_z, w32, w64, FitsSigned}
use mir.Syntax.{w128}
use Rattle.std.proofs.lemmas.Int.{ints, quot-rem, rem_below}
use Rattle.calendar_spans.proofs.QuotientLemmas.{div_le}
use Rattle.calendar_spans.specs.Duration.{second_nanos}
use Rattle.calendar_spans.specs.DurationParts.{duration_nanos}
use Rattle.calendar_spans.proofs.duration.from_parts.Goals as goal

-- the whole seconds in the nanoseconds go over to the seconds
carried : (s n q : ℤ) → unsigned_abs s < 2 ^ 125 → FitsSigned w64 n → q ≡ to_z w64 (of_z w64 (int_div (to_z w64 (of_z w64 n)) (pos second_nanos))) → to_z w128 (of_z w128 (to_z w128 (of_z w128 s) +ℤ to_z w128 (of_z w128 q))) *ℤ pos second_nanos +ℤ to_z w32 (of_z w32 (to_z w64 (of_z w64 (int_rem (to_z w64 (of_z w64 n)) (pos second_nanos))))) ≡ s *ℤ pos second_nanos +ℤ n
carried s n q small fits is = rw (to_z-of_z fits) (omega (arith, ints, quot-rem n (pos second_nanos), rem_below n (pos second_nanos) (omega arith), div_le n (pos second_nanos), (rw (to_z-of_z fits) at is)))

pub returns-in_default-clause-some : goal.returns-in_default-clause-some
returns-in_default-clause-some c =
    let none = c.in_default.ensures in
    let kept = c.one_sign-whole_seconds.ensures.parts in
    let whole = c.one_sign-whole_seconds.ensures.whole ∙ carried c.args.seconds c.args.nanoseconds c.from-carry.result c.requires c.ranges.nanoseconds c.from-carry.ensures in
    ((λ e. absurd (cc)), λ fits. absurd (none (omega (arith, ints, whole, kept.same_sign))))

pub invariant_of-result : goal.invariant_of-result
invariant_of-result c =
    let sum = c.in-Ok.ensures in
    let s = c.one_sign-whole_seconds.result.0 in
    let n = c.one_sign-whole_seconds.result.1 in
    let seconds : to_z w64 (of_z w64 c.in-Ok.seconds) ≡ s = omega (arith, ints, sum.0, sum.1) in
    let nanoseconds : to_z w32 (of_z w32 n) ≡ n = omega (arith, ints) in
    rw (seconds, nanoseconds) c.one_sign-whole_seconds.ensures.parts

pub returns-clause-some : goal.returns-clause-some
returns-clause-some c =
    let sum = c.in-Ok.ensures in
    let whole = c.one_sign-whole_seconds.ensures.whole ∙ carried c.args.seconds c.args.nanoseconds c.from-carry.result c.requires c.ranges.nanoseconds c.from-carry.ensures in
    let true_is : true ≡ true = refl in
    ((λ _. (omega (arith, ints, whole, sum.0, sum.1), omega (arith, ints, whole, sum.0, sum.1))), λ _. true_is)

pub returns-clause-value : goal.returns-clause-value
unfolding duration_nanos
returns-clause-value c =
    let sum = c.in-Ok.ensures in
    let whole = c.one_sign-whole_seconds.ensures.whole ∙ carried c.args.seconds c.args.nanoseconds c.from-carry.result c.requires c.ranges.nanoseconds c.from-carry.ensures in
    omega (arith, ints, whole, sum.0, sum.1)
