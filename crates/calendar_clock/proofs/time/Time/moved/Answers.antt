use Rattle.std.proofs.Common.{arith}
use Rattle.std.proofs.lemmas.Int.{ints}
use Rattle.calendar_clock.proofs.time.Time.moved.Goals as goal

pub returns-clause-sum : goal.returns-clause-sum
returns-clause-sum c = omega (arith, ints)
