use Rattle.std.proofs.Common.{sym, append_assoc}
use Rattle.std.proofs.lemmas.List.{append-nil, drop_more, drop_all}
use Rattle.parsing_item_parts.specs.Items.{items_kept}
use Rattle.parsing_item_parts.proofs.list.Items.with_text.Goals as goal

pub loop-byte-preserved : goal.loop-byte-preserved
loop-byte-preserved c =
    let before = rw (drop_more c.args.text.now c.loop-byte.byte-index 0 c.loop-byte-test.true) at c.loop-byte.invariant in
    rw (c.in_ok-list.ensures, append_assoc (items_kept c.loop-byte.list) _ _) before

pub returns : goal.returns
returns c = sym (rw (drop_all c.loop-byte.byte-index c.args.text.now c.loop-byte-test.false, append-nil) at c.loop-byte.invariant)
