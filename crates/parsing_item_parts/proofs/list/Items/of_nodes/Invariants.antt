use Rattle.std.proofs.Common.{◌++◌, List, drop, map}
use Rattle.description_items.specs.Tree.{listed}
use Rattle.parsing_components.specs.Reads.{reading_of_all}
use Rattle.parsing_layout.specs.declared.items.Item.{Item}
use Rattle.parsing_item_parts.specs.Items.{AreItems, items_kept}
use Rattle.parsing_item_parts.proofs.list.Items.of_nodes.Given as goal

-- with the items of the nodes that are left, those so far are the items of all
abbrev pub invariant-loop-node : goal.invariant-loop-node
invariant-loop-node g l = (later : List Item) → AreItems (reading_of_all g.N.Node.language (listed (map g.N.Node.tree (drop l.node-index l.nodes)))) later
    → AreItems (reading_of_all g.N.Node.language (listed (map g.N.Node.tree l.nodes))) (items_kept l.list ++ later)
