use Rattle.calendar_count.specs.Weekday.{days_from_monday, next_weekday}
use Rattle.calendar_count.proofs.lemmas.Steps.{weekdays_round, weekday_bound, one_more_first}
use Rattle.calendar_count.proofs.weekday_iter.RevWeekdayIter.nth.Goals as goal

pub returns-clause-value : goal.returns-clause-value
returns-clause-value c = rw (← c.self.view_is, weekdays_round c.args.n (days_from_monday c.nth_prev-weekday.result) (weekday_bound c.nth_prev-weekday.result)) c.nth_prev-weekday.ensures

pub returns-clause-rest : goal.returns-clause-rest
returns-clause-rest c =
    rw (← c.self.view_is, one_more_first next_weekday c.args.n (days_from_monday c.previous-self-inside.result), c.previous-self-inside.ensures, weekdays_round c.args.n (days_from_monday c.nth_prev-weekday.result) (weekday_bound c.nth_prev-weekday.result)) c.nth_prev-weekday.ensures
