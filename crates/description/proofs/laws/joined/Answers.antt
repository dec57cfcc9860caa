use Rattle.description.proofs.Joining.{joined_texts}
use Rattle.description.proofs.laws.joined.Goals as goal

pub returns : goal.returns
returns c = joined_texts
