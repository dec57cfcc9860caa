use Rattle.std.proofs.Common.{◌≡◌, true, take}
use Rattle.description_tree.specs.Forms.{are_owned}
use Rattle.description_tree.specs.Inner.{inner_trees}
use Rattle.description_tree.proofs.owned.+owned.Given as goal

abbrev pub invariant-all_owned-loop-node : goal.invariant-all_owned-loop-node
invariant-all_owned-loop-node l = record { trees : inner_trees l.copies.items ≡ inner_trees (take l.node-index l.nodes); owned : are_owned l.copies.items ≡ true }
