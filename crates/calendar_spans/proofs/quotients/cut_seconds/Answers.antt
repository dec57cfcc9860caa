use Rattle.std.proofs.Common.{arith, rules, ◌≡◌, to_z, of_z, to_z-of_z, w64, FitsSigned}
use mir.Syntax.{w128}
use Rattle.std.proofs.lemmas.Int.{ints}
use Rattle.calendar_spans.proofs.QuotientLemmas.{nonzero_abs, div_le, rest_bound}
use Rattle.calendar_spans.proofs.quotients.cut_seconds.Goals as goal

wide : (c : goal.After-from-divisor) → to_z w128 (of_z w128 c.from-divisor.result) ≡ c.args.divisor
wide c =
    let same : to_z w64 (of_z w64 c.args.divisor) ≡ c.args.divisor = to_z-of_z c.ranges.divisor in
    let fits : FitsSigned w128 c.from-divisor.result = search rules in
    rw (to_z-of_z fits, c.from-divisor.ensures) same

pub nonzero_div-result : goal.nonzero_div-result
nonzero_div-result c =
    let s = c.args.seconds in
    let d = c.args.divisor in
    let divisor = wide c in
    let some = nonzero_abs d c.requires.nonzero in
    let small = div_le s d in
    (omega (arith, ints, some, divisor), rw (to_z-of_z c.ranges.seconds, divisor) (omega (arith, ints, small)))

pub overflow_cast-result : goal.overflow_cast-result
overflow_cast-result c =
    let left = rest_bound c.args.seconds c.args.divisor c.requires.nonzero c.requires.small in
    rw (to_z-of_z c.ranges.seconds, wide c) (omega (arith, ints, left))

pub returns : goal.returns
returns c =
    let s = c.args.seconds in
    let d = c.args.divisor in
    let small = div_le s d in
    let left = rest_bound s d c.requires.nonzero c.requires.small in
    rw (to_z-of_z c.ranges.seconds, wide c)
    (record {
      quotient = omega (arith, ints, small);
      left = omega (arith, ints, left);
      bound = (omega (arith, ints, small), omega (arith, ints, left));
    })
