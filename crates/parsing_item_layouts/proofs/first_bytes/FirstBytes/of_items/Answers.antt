use Rattle.description_items.specs.Tree.{trees, listed}
use Rattle.parsing_components.specs.Component.{reads_component}
use Rattle.parsing_components.specs.Reads.{reading_of_all}
use Rattle.parsing_item_layouts.proofs.FrontLemmas.{bytes_of}
use Rattle.parsing_item_layouts.proofs.first_bytes.FirstBytes.of_items.Goals as goal

pub returns : goal.returns
returns c = bytes_of (reading_of_all reads_component (listed (trees c.args.items.now))) c.end-bytes.result c.put_nodes.new.front c.put_nodes.ensures c.end-bytes.ensures.any
