use Rattle.description_strftime.proofs.FaultsAfter.{faulty_after}
use Rattle.description_strftime.proofs.laws.faults_after.Goals as goal

pub returns : goal.returns
returns c = record { holds = faulty_after }
