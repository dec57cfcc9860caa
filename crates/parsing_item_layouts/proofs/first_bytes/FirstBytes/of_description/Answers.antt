use Rattle.parsing_item_layouts.proofs.FrontLemmas.{bytes_of}
use Rattle.parsing_item_layouts.proofs.first_bytes.FirstBytes.of_description.Goals as goal

pub returns : goal.returns
returns c =
    rw (← c.inner.ensures.tree) (bytes_of _ c.end-bytes.result c.put_node.new.front c.put_node.ensures c.end-bytes.ensures.any)
