use Rattle.datetime.proofs.LawLemmas.{shows_day}
use Rattle.datetime.proofs.laws.wall_clocks_show_their_parts.Goals as goal

pub returns : goal.returns
returns c = shows_day
