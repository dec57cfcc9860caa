-- Descriptions that are read by their parts.
use Rattle.std.specs.Prelude.{◌≡◌, true, false, ℤ, List, Option}
use Rattle.parsing_layout.specs.Items.{all_certain, all_possible}
use Rattle.parsing_layout.specs.Layout.{Values}
use Rattle.parsing_layout.specs.declared.parts.Field.{Field}
use Rattle.parsing_layout.specs.Said.{Said, fields_of}
use Rattle.parsing_layout.specs.declared.items.Item.{Item}
use Rattle.parsing_strides.specs.Found.{values_in}
use Rattle.parsing_components.specs.Meaning.{Meaning}
use Rattle.parsing_item_parts.specs.Items.{AreItems, items_kept}
use Rattle.parsing_item_parts.specs.declared.listed.Listed.{Listed}
use Rattle.parsing_item_parts.specs.declared.reading.ListedAt.{ListedAt}
use Rattle.parsing_item_parts.specs.Assumed.{Assumes}

abbrev pub items_listed : Listed → List Item
items_listed l = items_kept l.items

-- the fields whose numbers have to be there, and those that may be
abbrev pub certain_fields : Listed → Said
certain_fields l = fields_of (all_certain (items_listed l))

abbrev pub possible_fields : Listed → Said
possible_fields l = fields_of (all_possible (items_listed l))

-- the fields that a text says, and what is found in it
pub record IsWay (l : Listed) (has : Said) (v : Values) : Type 0 where
  pub certain : (f : Field) → certain_fields l f ≡ true → has f ≡ true
  pub possible : (f : Field) → possible_fields l f ≡ false → has f ≡ false
  pub unread : (f : Field) → has f ≡ false → v f ≡ values_in l.unread f

-- what a text says by the items, the description reads
abbrev pub IsListOf : Meaning → Listed → Type 0
IsListOf m l = AreItems m (items_listed l)

-- the offset that is assumed has the minutes that count where lines have none
abbrev pub ListedAssumes : ListedAt → Option ℤ → Type 0
ListedAssumes way assumed = Assumes way.listed.now.kind.has_offset assumed way.minutes.number
