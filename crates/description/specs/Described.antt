-- What is made of a text, as a tree.
use Rattle.std.specs.Prelude.{ℕ, Bool, true, false, List, Result, Ok}
use Rattle.std.specs.Global.{Vec}
use Rattle.description_lexer.specs.Fault.{Fault}
use Rattle.description_lexer.specs.Answer.{◌>>=◌}
use Rattle.description_items.specs.declared.item.BorrowedFormatItem.{BorrowedFormatItem}
use Rattle.description_items.specs.Forms.{are_of_text}
use Rattle.description_items.specs.Tree.{Tree, trees}
use Rattle.description_lexer.specs.declared.version.DescriptionVersion.{DescriptionVersion}
use Rattle.description_tree.specs.Description.{v3_node, v3_tree}
use Rattle.description_tree.specs.Forms.{is_read}
use Rattle.description_grammar.specs.Reading.{read_items}
use Rattle.description_grammar.specs.Outcomes.{joined}
use Rattle.description.specs.declared.described.Description.{Description}
use Rattle.description.specs.declared.described.Description.TheVariants as description

-- items, one after the other
abbrev pub items_tree : Vec BorrowedFormatItem → Tree
items_tree v = joined (trees v.items)

-- the same for each version
abbrev pub described : Description → Tree
described (description.Items v) = items_tree v
described (description.V3 d) = v3_tree d

abbrev pub has_tree : Description → Bool
has_tree (description.Items v) = false
has_tree (description.V3 d) = true

-- as a text gives it: literals of items are text, those of a tree are borrowed, all else in a tree is owned
abbrev pub is_as_read : Description → Bool
is_as_read (description.Items v) = are_of_text v.items
is_as_read (description.V3 d) = is_read (v3_node d)

-- what is read of a text, as one tree
abbrev pub read_joined : DescriptionVersion → List ℕ → Result Tree Fault
read_joined v text = do
  items ← read_items v text
  Ok (joined items)
