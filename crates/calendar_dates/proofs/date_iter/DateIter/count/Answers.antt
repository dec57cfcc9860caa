use Rattle.std.proofs.Common.{arith}
use Rattle.calendar_dates.proofs.DaysLemmas.{length_counts}
use Rattle.calendar_dates.proofs.date_iter.DateIter.count.Goals as goal

pub returns-clause-bound : goal.returns-clause-bound
returns-clause-bound c = omega (arith, rw c.self.view_is at (length_counts c.self.inside.first c.self.inside.len))
