use Rattle.std.proofs.Common.{arith, sym, ap, Some}
use Rattle.calendar_dates.proofs.DaysLemmas.{length_counts}
use Rattle.calendar_dates.proofs.date_iter.DateIterIterator.size_hint.Goals as goal

pub returns-clause-exact : goal.returns-clause-exact
returns-clause-exact c =
    let e = sym (rw c.self.view_is at (length_counts c.self.inside.first c.self.inside.len)) in
    (e, ap Some e)

pub returns-clause-lower : goal.returns-clause-lower
returns-clause-lower c = let e = rw c.self.view_is at (length_counts c.self.inside.first c.self.inside.len) in λ _. omega arith

pub returns-clause-upper : goal.returns-clause-upper
returns-clause-upper c = let e = rw c.self.view_is at (length_counts c.self.inside.first c.self.inside.len) in (tt, omega arith)
