use Rattle.std.proofs.Common.{◌≡◌, ◌++◌, drop}
use Rattle.parsing_item_parts.specs.Items.{items_kept, literal_items}
use Rattle.parsing_item_parts.proofs.list.Items.with_text.Given as goal

-- the bytes of the text so far were added
abbrev pub invariant-loop-byte : goal.invariant-loop-byte
invariant-loop-byte l = items_kept l.fn.self ++ literal_items l.text ≡ items_kept l.list ++ literal_items (drop l.byte-index l.text)
