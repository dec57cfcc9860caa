use Rattle.parsing_parsable.proofs.Tried.{tree_tried, in_turn_tried}
use Rattle.parsing.proofs.node_laws.tried_at_most_nodes.Goals as goal

pub returns-clause-items : goal.returns-clause-items
returns-clause-items c = in_turn_tried

pub returns-clause-tree : goal.returns-clause-tree
returns-clause-tree c = tree_tried
