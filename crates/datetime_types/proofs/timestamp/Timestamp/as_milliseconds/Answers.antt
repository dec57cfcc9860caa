use Rattle.std.proofs.Common.{arith}
use Rattle.calendar_count.proofs.lemmas.Signed.{signed}
use Rattle.datetime_types.specs.Unix.{unix_nanos}
use Rattle.datetime_types.proofs.timestamp.Timestamp.as_milliseconds.Goals as goal

pub returns : goal.returns
unfolding unix_nanos
returns c = rw (← c.self.view_is) (omega (arith, signed, c.from.ensures))
