use Rattle.std.proofs.Common.{refl}
use Rattle.calendar_dates.proofs.DaysLemmas.{counts_sorted}
use Rattle.calendar_dates.proofs.date_iter.DateIter.is_sorted.Goals as goal

pub returns-clause-value : goal.returns-clause-value
returns-clause-value c =
    let sorted = rw c.self.view_is at (counts_sorted c.self.inside.first c.self.inside.len) in
    (λ _. sorted, λ _. refl)
