use Rattle.std.proofs.Common.{arith}
use Rattle.std.proofs.lemmas.Grind.{common_steps}
use Rattle.calendar_count.proofs.DigitLemmas.{fraction_nanos, fraction_micros, fraction_millis}
use Rattle.calendar_count.proofs.digits.write_fraction.Goals as goal

pub returns-in_ok-write_three-2 : goal.returns-in_ok-write_three-2
returns-in_ok-write_three-2 g c = rw (← fraction_nanos c.args.nanoseconds c.if-nanos-gt0.true) (grind (arith, common_steps))

pub returns-in_ok-write_three-3 : goal.returns-in_ok-write_three-3
returns-in_ok-write_three-3 g c = rw (← fraction_micros c.args.nanoseconds (omega arith) c.if-micros-gt0.true) (grind (arith, common_steps))

pub returns-else-micros-gt0 : goal.returns-else-micros-gt0
returns-else-micros-gt0 g c = rw (← fraction_millis c.args.nanoseconds (omega arith) (omega arith)) (grind (arith, common_steps))
