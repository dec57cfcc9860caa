use Rattle.calendar_count.specs.Weekday.{days_from_monday, next_weekday}
use Rattle.calendar_count.proofs.lemmas.Steps.{weekdays_round, weekday_bound, one_more}
use Rattle.calendar_count.proofs.weekday_iter.WeekdayIter.nth.Goals as goal

pub returns-clause-value : goal.returns-clause-value
returns-clause-value c = rw (← c.self.view_is, weekdays_round c.args.n (days_from_monday c.self.inside.due) (weekday_bound c.self.inside.due)) c.nth_next-weekday.ensures

pub returns-clause-rest : goal.returns-clause-rest
returns-clause-rest c =
    rw (← c.self.view_is, one_more next_weekday c.args.n (days_from_monday c.self.inside.due), weekdays_round c.args.n (days_from_monday c.self.inside.due) (weekday_bound c.self.inside.due), ← c.nth_next-weekday.ensures) c.next-self-inside.ensures
