use Rattle.std.proofs.Common.{◌≡◌, drop}
use Rattle.description_items.specs.Tree.{trees, listed}
use Rattle.description_items.specs.Same.{same_trees}
use Rattle.description_items.proofs.same.+same.Given as goal

-- what is left decides
abbrev pub invariant-are_same-loop-index : goal.invariant-are_same-loop-index
invariant-are_same-loop-index l = same_trees (listed (trees l.items)) (listed (trees l.others)) ≡ same_trees (listed (trees (drop l.index l.items))) (listed (trees (drop l.index l.others)))
