use Rattle.std.proofs.Common.{arith, refl, pos, ◌+◌}
use Rattle.calendar_count.specs.Range.{greatest_year, unix_epoch}
use Rattle.calendar_count.proofs.lemmas.Places.{january_day}
use Rattle.calendar.proofs.laws.day_of_unix_epoch.Goals as goal

pub returns-clause-day : goal.returns-clause-day
returns-clause-day c = january_day unix_epoch (greatest_year + 1970) 306 13 0 (pos 1970) refl (omega arith) (omega arith) (omega arith) (omega arith) (omega arith) (omega arith)
