use Rattle.std.proofs.Common.{◌≡◌, ◌+◌, drop, max}
use Rattle.description_items.specs.Tree.{listed}
use Rattle.description_tree.specs.Inner.{inner_trees}
use Rattle.description_tree.specs.Reserved.{reserved_in_turn, greatest_reserved}
use Rattle.description_tree.proofs.reserved.+bytes.Given as goal

abbrev pub invariant-greatest_reserved-loop-node : goal.invariant-greatest_reserved-loop-node
invariant-greatest_reserved-loop-node l = greatest_reserved (listed (inner_trees l.nodes)) ≡ max l.greatest (greatest_reserved (listed (inner_trees (drop l.node-index l.nodes))))

abbrev pub invariant-reserved_in_turn-loop-node : goal.invariant-reserved_in_turn-loop-node
invariant-reserved_in_turn-loop-node l = reserved_in_turn (listed (inner_trees l.nodes)) ≡ l.total + reserved_in_turn (listed (inner_trees (drop l.node-index l.nodes)))
