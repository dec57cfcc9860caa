use Rattle.description_items.proofs.SameTrees.{same_exactly}
use Rattle.description.proofs.laws.same_trees.Goals as goal

pub returns : goal.returns
returns c = record { exactly = same_exactly }
