use Rattle.std.proofs.Common.{sym}
use Rattle.calendar_dates.proofs.DaysLemmas.{length_counts}
use Rattle.calendar_dates.proofs.date_iter.DateIterExactSizeIterator.len.Goals as goal

pub returns-clause-value : goal.returns-clause-value
returns-clause-value c = sym (rw c.self.view_is at (length_counts c.self.inside.first c.self.inside.len))
