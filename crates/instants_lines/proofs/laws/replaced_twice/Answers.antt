use Rattle.instants_lines.proofs.Outside.{twice}
use Rattle.instants_lines.proofs.Within.{start_within}
use Rattle.instants_lines.proofs.laws.replaced_twice.Goals as goal

pub returns : goal.returns
returns c = λ search below line date again moment one e p. twice search below line date again moment one e p (start_within search line date e)
