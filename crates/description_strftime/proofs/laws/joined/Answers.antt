use Rattle.description_strftime.proofs.Joins.{joins}
use Rattle.description_strftime.proofs.laws.joined.Goals as goal

pub returns : goal.returns
returns c = record { holds = joins }
