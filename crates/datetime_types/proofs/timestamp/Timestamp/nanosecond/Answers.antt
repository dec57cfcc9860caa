use Rattle.std.proofs.Common.{arith}
use Rattle.calendar_count.proofs.lemmas.Signed.{signed}
use Rattle.datetime_wall.specs.Wall.{nanosecond_of}
use Rattle.datetime_types.specs.Unix.{unix_nanos}
use Rattle.datetime_types.proofs.timestamp.Timestamp.nanosecond.Goals as goal

pub returns-clause-value : goal.returns-clause-value
unfolding unix_nanos nanosecond_of
returns-clause-value c = rw (← c.self.view_is) (omega (arith, signed, c.self.invariant.1))
