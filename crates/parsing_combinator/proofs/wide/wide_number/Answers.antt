use Rattle.std.proofs.Common.{arith}
use Rattle.parsing_combinator.proofs.Numbers.{below_most, next_digit}
use Rattle.parsing_combinator.proofs.wide.wide_number.Goals as goal

pub overflow_mul-value : goal.overflow_mul-value
overflow_mul-value c = omega (arith, below_most 23 c.loop-b.b-index c.loop-b.value (omega (arith, c.requires.short)) c.loop-b.invariant.1)

pub overflow_add-value : goal.overflow_add-value
overflow_add-value c =
    let n = next_digit _ _ _ c.requires.all c.loop-b-test.true c.loop-b.invariant.0 c.loop-b.invariant.1 in
    omega (arith, below_most 23 c.loop-b.b-index c.loop-b.value (omega (arith, c.requires.short)) c.loop-b.invariant.1, n.high, c.from.ensures)
