use Rattle.parsing_item_layouts.proofs.FrontLemmas.{bounds_of}
use Rattle.parsing_item_layouts.proofs.first_bounds.FirstBounds.of_description.Goals as goal

pub returns : goal.returns
returns c =
    rw (← c.inner.ensures.tree) (bounds_of _ c.end-bounds.result c.put_node.new.front c.put_node.ensures c.end-bounds.ensures.any c.end-bounds.ensures.whole)
