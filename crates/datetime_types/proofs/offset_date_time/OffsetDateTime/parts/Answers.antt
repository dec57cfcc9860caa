use Rattle.std.proofs.Common.{arith}
use Rattle.calendar_count.proofs.lemmas.Signed.{signed}
use Rattle.datetime_types.proofs.offset_date_time.OffsetDateTime.parts.Goals as goal

pub returns-clause-whole : goal.returns-clause-whole
returns-clause-whole c = rw (← c.self.view_is) (omega (arith, signed, c.parts-seconds.ensures.whole, c.parts-seconds.ensures.bound, c.whole_seconds.ensures.value, c.whole_seconds.ensures.bound))
