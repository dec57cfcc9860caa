use Rattle.instants_lines.proofs.Explaining.{explained_by}
use Rattle.instants_lines.proofs.laws.explained_answer.Goals as goal

pub returns : goal.returns
returns c = explained_by
