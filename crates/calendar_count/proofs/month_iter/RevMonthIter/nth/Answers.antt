use Rattle.calendar_count.specs.Month.{month_number, next_month}
use Rattle.calendar_count.proofs.lemmas.Steps.{months_round, month_bound, one_more_first}
use Rattle.calendar_count.proofs.month_iter.RevMonthIter.nth.Goals as goal

pub returns-clause-value : goal.returns-clause-value
returns-clause-value c = rw (← c.self.view_is, months_round c.args.n (month_number c.nth_prev-month.result) (month_bound c.nth_prev-month.result).0 (month_bound c.nth_prev-month.result).1) c.nth_prev-month.ensures

pub returns-clause-rest : goal.returns-clause-rest
returns-clause-rest c =
    rw (← c.self.view_is, one_more_first next_month c.args.n (month_number c.previous-self-inside.result), c.previous-self-inside.ensures, months_round c.args.n (month_number c.nth_prev-month.result) (month_bound c.nth_prev-month.result).0 (month_bound c.nth_prev-month.result).1) c.nth_prev-month.ensures
