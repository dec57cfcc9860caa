use Rattle.calendar.proofs.LawLemmas.{takes_all}
use Rattle.calendar.proofs.laws.both_ends.Goals as goal

pub returns : goal.returns
returns c = takes_all
