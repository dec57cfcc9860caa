use Rattle.std.proofs.Common.{arith}
use Rattle.calendar_dates.proofs.DaysLemmas.{length_counts}
use Rattle.calendar_dates.proofs.date_iter.DateIter.new.Goals as goal

pub returns-clause-bound : goal.returns-clause-bound
returns-clause-bound c = omega (arith, length_counts c.count-first.result c.saturating_sub.result)
