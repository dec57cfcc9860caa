use Rattle.std.proofs.Common.{arith, sym, refl, ◌+◌, ◌-◌}
use Rattle.calendar_dates.proofs.DaysLemmas.{counts_get, counts_get_past, counts_drop, counts_drop_past}
use Rattle.calendar_dates.proofs.date_iter.DateIter.nth.Goals as goal

pub returns-then-n-self-clause-value : goal.returns-then-n-self-clause-value
returns-then-n-self-clause-value c = sym (rw c.self.view_is at (counts_get_past c.self.inside.first c.self.inside.len c.args.n (omega arith)))

pub returns-then-n-self-clause-rest : goal.returns-then-n-self-clause-rest
returns-then-n-self-clause-rest c = sym (rw c.self.view_is at (counts_drop_past c.self.inside.first c.self.inside.len (c.args.n + 1) c.self.inside.first (omega arith)))

pub returns-clause-value : goal.returns-clause-value
returns-clause-value c = sym (rw c.self.view_is at (counts_get c.self.inside.first c.self.inside.len c.args.n _ (omega arith) c.from_count-day.ensures.value))

pub returns-clause-rest : goal.returns-clause-rest
returns-clause-rest c = sym (rw c.self.view_is at (counts_drop c.self.inside.first c.self.inside.len (c.args.n + 1) (c.self.inside.first + (c.args.n + 1)) (c.self.inside.len - (c.args.n + 1)) refl refl))
