-- The form of the items that a text gives.
use Rattle.std.specs.Prelude.{Bool, true, false, ◌&&◌, List, [], ◌∷◌, map}
use Rattle.description_items.specs.declared.item.BorrowedFormatItem.{BorrowedFormatItem}
use Rattle.description_items.specs.declared.item.BorrowedFormatItem.TheFolds.{fold-BorrowedFormatItem}
use Rattle.description_items.specs.declared.item.BorrowedFormatItem.TheOpen.{BorrowedFormatItem-F}

abbrev pub all_true : List Bool → Bool
all_true [] = true
all_true (b ∷ bs) = b && all_true bs

-- a literal that is text, or a component
abbrev pub text_step : BorrowedFormatItem-F Bool → Bool
text_step (BorrowedFormatItem-F.StringLiteral s) = true
text_step (BorrowedFormatItem-F.Component c) = true
text_step other = false

abbrev pub is_of_text : BorrowedFormatItem → Bool
is_of_text = fold-BorrowedFormatItem Bool text_step

abbrev pub are_of_text : List BorrowedFormatItem → Bool
are_of_text items = all_true (map is_of_text items)
