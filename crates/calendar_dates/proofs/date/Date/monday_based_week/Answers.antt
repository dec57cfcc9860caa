use Rattle.calendar_count.proofs.lemmas.Places.{place_monday_week}
use Rattle.calendar_dates.proofs.date.Date.monday_based_week.Goals as goal

pub returns-clause-value : goal.returns-clause-value
returns-clause-value c = rw c.count-since_monday.ensures.value (place_monday_week _ _ c.args.self c.place-ordinal.ensures.valid c.place-ordinal.ensures.count)
