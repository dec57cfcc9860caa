use Rattle.calendar.proofs.LawLemmas.{views_undone}
use Rattle.calendar.proofs.laws.views.Goals as goal

pub returns : goal.returns
returns c = views_undone
