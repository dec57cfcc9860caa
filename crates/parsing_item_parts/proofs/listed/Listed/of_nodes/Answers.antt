use Rattle.std.proofs.Common.{map}
use Rattle.description_items.specs.Tree.{listed}
use Rattle.parsing_components.specs.Reads.{reading_of_all}
use Rattle.parsing_item_parts.proofs.ReadingLemmas.{list_read}
use Rattle.parsing_item_parts.proofs.listed.Listed.of_nodes.Goals as goal

pub returns : goal.returns
returns g c =
    list_read
    (reading_of_all g.N.Node.language (listed (map g.N.Node.tree c.args.nodes.now))) c.in_ok-items.items c.of_items.result c.in_ok-items.ensures c.of_items.ensures
