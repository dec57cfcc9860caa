use Rattle.std.proofs.Common.{◌≡◌, ◌+◌, ◌*◌, ◌≤◌, min, map}
use Rattle.description_items.specs.Tree.{listed}
use Rattle.parsing_record.specs.Tally.{greatest_count}
use Rattle.parsing_components.proofs.lemmas.Sizes.{size, size_all}
use Rattle.parsing_parsable.proofs.Counting.{nodes_from}
use Rattle.parsing_parsable.proofs.nodes.+nodes.Given as goal

abbrev pub decreases-nodes_in : goal.decreases-nodes_in
decreases-nodes_in g l = 2 * size (g.N.Node.tree l.node.now)

abbrev pub decreases-nodes_in_all : goal.decreases-nodes_in_all
decreases-nodes_in_all g l = 2 * size_all (listed (map g.N.Node.tree l.nodes.now)) + 1

abbrev pub invariant-nodes_in_all-loop-node : goal.invariant-nodes_in_all-loop-node
invariant-nodes_in_all-loop-node g l = record { counted : min (nodes_from g.N.Node.tree l.nodes 0) greatest_count ≡ min (l.count + nodes_from g.N.Node.tree l.nodes l.node-index) greatest_count; within : l.count ≤ greatest_count }
