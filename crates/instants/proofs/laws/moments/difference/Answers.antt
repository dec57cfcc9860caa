use Rattle.instants.proofs.Placed.{moved_by_difference, difference_is_duration}
use Rattle.instants.proofs.laws.moments.difference.Goals as goal

pub returns-clause-duration : goal.returns-clause-duration
returns-clause-duration c = difference_is_duration

pub returns-clause-sum : goal.returns-clause-sum
returns-clause-sum c = moved_by_difference
