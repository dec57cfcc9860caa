use Rattle.std.proofs.Common.{append_assoc, refl, sym}
use Rattle.std.proofs.lemmas.List.{append-nil, drop_more, drop_all}
use Rattle.parsing_item_parts.proofs.ItemLemmas.{no_more, parts_more}
use Rattle.parsing_item_parts.proofs.list.Parts.of_items.Goals as goal

pub loop-item-init : goal.loop-item-init
loop-item-init c = rw c.new-parts.ensures refl

pub loop-item-preserved : goal.loop-item-preserved
loop-item-preserved c =
    let items = c.args.items.now in
    let i = c.loop-item.item-index in
    rw (c.in_ok-parts.ensures, append_assoc, ← parts_more c.args.is_all, ← drop_more items i _ c.loop-item-test.true) c.loop-item.invariant

pub returns : goal.returns
returns c = sym (rw (drop_all c.loop-item.item-index c.args.items.now c.loop-item-test.false, no_more, append-nil) at c.loop-item.invariant)
