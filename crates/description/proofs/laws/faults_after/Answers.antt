use Rattle.description.proofs.Joining.{fault_after}
use Rattle.description.proofs.laws.faults_after.Goals as goal

pub returns : goal.returns
returns c = fault_after
