use Rattle.calendar_clock.proofs.ClockLemmas.{back_again}
use Rattle.calendar_clock.proofs.laws.moved_and_back.Goals as goal

pub returns : goal.returns
returns c = rw (c.sub.ensures, c.add.ensures) (back_again c.args.time c.args.duration c.second_of_day-second_of_day.ensures.range)
