use Rattle.std.proofs.Common.{map}
use Rattle.description_items.specs.Tree.{listed}
use Rattle.parsing_components.specs.Reads.{reading_of_all}
use Rattle.parsing_item_parts.specs.Items.{items_kept}
use Rattle.parsing_item_parts.proofs.ItemLemmas.{alone_read}
use Rattle.parsing_item_parts.proofs.list.Parts.of_nodes.Goals as goal

pub returns : goal.returns
returns g c =
    alone_read (reading_of_all g.N.Node.language (listed (map g.N.Node.tree c.args.nodes.now))) (items_kept c.in_ok-items.items) c.alone_of.result c.in_ok-items.ensures (rw c.as_slice.ensures at c.alone_of.ensures)
