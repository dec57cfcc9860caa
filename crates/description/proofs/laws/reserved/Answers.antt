use Rattle.description_tree.proofs.Longest.{reserved_is_longest}
use Rattle.description.proofs.Nodes.{tree_nodes, tree_room}
use Rattle.description.proofs.laws.reserved.Goals as goal

pub returns-clause-longest : goal.returns-clause-longest
returns-clause-longest c = reserved_is_longest

pub returns-clause-bytes : goal.returns-clause-bytes
returns-clause-bytes c = tree_room

pub returns-clause-nodes : goal.returns-clause-nodes
returns-clause-nodes c = tree_nodes
