use Rattle.instants_lines.proofs.Beside.{same_key}
use Rattle.instants_lines.proofs.laws.beside_part.Goals as goal

pub returns : goal.returns
returns c = same_key
