use Rattle.calendar_count.specs.Month.{month_number, next_month}
use Rattle.calendar_count.proofs.lemmas.Steps.{months_round, month_bound, one_more}
use Rattle.calendar_count.proofs.month_iter.MonthIter.nth.Goals as goal

pub returns-clause-value : goal.returns-clause-value
returns-clause-value c = rw (← c.self.view_is, months_round c.args.n (month_number c.self.inside.due) (month_bound c.self.inside.due).0 (month_bound c.self.inside.due).1) c.nth_next-month.ensures

pub returns-clause-rest : goal.returns-clause-rest
returns-clause-rest c =
    rw (← c.self.view_is, one_more next_month c.args.n (month_number c.self.inside.due), months_round c.args.n (month_number c.self.inside.due) (month_bound c.self.inside.due).0 (month_bound c.self.inside.due).1, ← c.nth_next-month.ensures) c.next-self-inside.ensures
