use Rattle.datetime.proofs.LawLemmas.{cuts}
use Rattle.datetime.proofs.laws.cuts.Goals as goal

pub returns : goal.returns
returns c = cuts
