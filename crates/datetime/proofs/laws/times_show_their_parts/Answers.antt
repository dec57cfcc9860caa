use Rattle.datetime.proofs.LawLemmas.{times_show_parts}
use Rattle.datetime.proofs.laws.times_show_their_parts.Goals as goal

pub returns : goal.returns
returns c = times_show_parts
