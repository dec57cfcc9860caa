use Rattle.std.proofs.Common.{arith}
use Rattle.calendar_count.proofs.lemmas.Signed.{signed}
use Rattle.datetime_wall.specs.Wall.{wall_clock}
use Rattle.datetime_wall.proofs.wall.instant_nanoseconds.Goals as goal

pub returns-clause-value : goal.returns-clause-value
unfolding wall_clock
returns-clause-value c = omega (arith, signed)

pub returns-clause-bound : goal.returns-clause-bound
returns-clause-bound c = omega (arith, signed)
