use Rattle.calendar_count.proofs.lemmas.Days.{days_in_order}
use Rattle.calendar.proofs.laws.order_of_days.Goals as goal

pub returns : goal.returns
returns c = days_in_order
