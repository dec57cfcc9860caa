use Rattle.std.proofs.Common.{arith}
use Rattle.calendar_count.proofs.lemmas.Signed.{signed}
use Rattle.datetime_wall.specs.Wall.{wall_clock}
use Rattle.datetime_wall.proofs.wall.unix_seconds.Goals as goal

pub returns-clause-value : goal.returns-clause-value
unfolding wall_clock
returns-clause-value c = omega (arith, signed)
