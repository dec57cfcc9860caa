-- What a part of a text stands for.
use Rattle.std.specs.Prelude.{Bool, true, List, [], ◌∷◌, map}
use Rattle.description_items.specs.Forms.{is_of_text}
use Rattle.description_items.specs.Tree.{Tree, tree_of}
use Rattle.description_strftime.specs.declared.letters.Spelled.{Spelled}
use Rattle.description_strftime.specs.declared.letters.Spelled.TheVariants as spelled
use Rattle.description_strftime.specs.Letters.{offset, part_of}

abbrev pub items_spelled : Spelled → List Tree
items_spelled (spelled.Item item) = tree_of item ∷ []
items_spelled spelled.Offset = offset
items_spelled (spelled.Composite letters) = map part_of letters.now

-- a literal among them is text
abbrev pub is_of_text_part : Spelled → Bool
is_of_text_part (spelled.Item item) = is_of_text item
is_of_text_part spelled.Offset = true
is_of_text_part (spelled.Composite letters) = true
