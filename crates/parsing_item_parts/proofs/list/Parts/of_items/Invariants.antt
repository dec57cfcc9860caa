use Rattle.std.proofs.Common.{◌≡◌, ◌++◌, drop}
use Rattle.parsing_item_parts.specs.Items.{parts_kept, parts_of_items}
use Rattle.parsing_item_parts.proofs.list.Parts.of_items.Given as goal

-- the parts of the items so far, and those of the others
abbrev pub invariant-loop-item : goal.invariant-loop-item
invariant-loop-item l = parts_of_items l.fn.is_all l.items ≡ parts_kept l.parts ++ parts_of_items l.fn.is_all (drop l.item-index l.items)
