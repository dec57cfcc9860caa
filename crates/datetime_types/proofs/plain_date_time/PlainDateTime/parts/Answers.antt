use Rattle.std.proofs.Common.{arith}
use Rattle.calendar_count.proofs.lemmas.Signed.{signed}
use Rattle.datetime_wall.specs.Wall.{wall_clock}
use Rattle.datetime_types.proofs.plain_date_time.PlainDateTime.parts.Goals as goal

pub returns-clause-whole : goal.returns-clause-whole
unfolding wall_clock
returns-clause-whole c = rw (← c.self.view_is) (omega (arith, signed, c.unix_seconds.ensures.value, c.nanosecond.ensures.value))
