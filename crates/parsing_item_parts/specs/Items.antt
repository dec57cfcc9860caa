-- The parts of the items of a description, and what a text that has them sets in a record.
use Rattle.std.specs.Prelude.{◌≡◌, ℕ, ◌==◌, pos, Bool, true, false, List, [], ◌∷◌, ◌++◌, map, take, Option, Some, None, Ok, option_map}
use Rattle.std.specs.Option.{option_and_then}
use Rattle.base.specs.Bytes.{hyphen}
use Rattle.description_items.specs.declared.component.Component.{Component}
use Rattle.description_items.specs.Tree.{Tree}
use Rattle.description_items.specs.Tree as tree
use Rattle.parsing_components.specs.Put.{put}
use Rattle.parsing_components.specs.Ranged.{between, up_to, counted, months, from_monday, since_epoch}
use Rattle.parsing_components.specs.declared.said.Read.{Read}
use Rattle.parsing_components.specs.declared.said.Read.TheVariants as read
use Rattle.parsing_components.specs.Meaning.{Meaning}
use Rattle.parsing_components.specs.declared.fields.Record.{Record}
use Rattle.parsing_layout.specs.Layout.{Values, Says, field_of}
use Rattle.parsing_layout.specs.declared.parts.Field.{Field}
use Rattle.parsing_layout.specs.declared.parts.Part.{Part}
use Rattle.parsing_layout.specs.Items.{SaysItems, certain, possible, all_certain, all_possible}
use Rattle.parsing_layout.specs.declared.items.Item.{Item}
use Rattle.parsing_layout.specs.declared.items.Item.TheVariants as item
use Rattle.parsing_components.specs.Reads.{Language, reading}
use Rattle.parsing_layout.specs.declared.parts.Field.TheVariants as field
use Rattle.parsing_layout.specs.declared.parts.Part.TheVariants as part
use Rattle.parsing_item_layouts.specs.Forms.{form_of}
use Rattle.parsing_item_layouts.specs.declared.forms.Form.{Form}
use Rattle.parsing_item_layouts.specs.declared.forms.Piece.{Piece}
use Rattle.parsing_item_layouts.specs.declared.forms.Form.TheVariants as form
use Rattle.parsing_item_layouts.specs.declared.forms.Piece.TheVariants as piece
use Rattle.parsing_item_parts.specs.declared.list.Parts.{Parts}
use Rattle.parsing_item_parts.specs.declared.list.Items.{Items}

-- ---- what the values of a text set

-- what a field's number says of a moment, in its range
abbrev pub said : Field → Values → Option Read
said field.Year v = between 0 9999 (λ y. read.Year (pos y)) (v field.Year)
said field.Month v = option_map read.Month (counted true months (v field.Month))
said field.Day v = between 1 31 read.Day (v field.Day)
said field.Weekday v = option_map read.Weekday (counted true from_monday (v field.Weekday))
said field.IsoWeek v = between 1 53 read.IsoWeek (v field.IsoWeek)
said field.OrdinalTens v = Some read.Nothing
said field.OrdinalOnes v = Some read.Nothing
said field.Hour v = between 0 23 read.Hour24 (v field.Hour)
said field.HourOfHalf v = between 1 12 read.Hour12 (v field.HourOfHalf)
said field.Half v = Some (read.Afternoon (v field.Half == 1))
said field.Minute v = between 0 59 read.Minute (v field.Minute)
said field.Second v = between 0 60 read.Second (v field.Second)
said field.Nanosecond v = Some (read.Subsecond (v field.Nanosecond))
said field.Sign v = Some read.Nothing
said field.OffsetHour v = up_to 25 (λ negative hour. read.OffsetHour hour negative) (v field.Sign == hyphen, v field.OffsetHour)
said field.OffsetMinute v = between 0 59 read.OffsetMinute (v field.OffsetMinute)
said field.Unix v = since_epoch read.Unix 1_000_000_000 (false, v field.Unix)

abbrev pub said_by : Option Field → Values → Option Read
said_by None v = Some read.Nothing
said_by (Some f) v = said f v

-- the record with what each part says, where all are in range
abbrev pub set_all : List Part → Values → Record → Option Record
set_all [] v r = Some r
set_all (p ∷ ps) v r = option_and_then (λ x. set_all ps v (put x r)) (said_by (field_of p) v)

-- an item reads what a text that has these parts sets
abbrev pub IsItem : Meaning → List Part → Type 0
IsItem m ps = (line : List ℕ) (v : Values) (rest : List ℕ) (r new : Record) → Says ps line v rest → set_all ps v r ≡ Some new → m r line ≡ Ok (new, rest)

-- ---- the parts of items

abbrev pub part_in : Piece → Option Part
part_in (piece.Part p) = Some p
part_in (piece.Bytes stretch) = None

-- a part, after a sign or without one
abbrev pub sign_and : Bool → Part → List Part
sign_and true p = part.Sign ∷ p ∷ []
sign_and false p = p ∷ []

-- where there is a choice, the texts without a sign
abbrev pub parts_in : Form → Option (List Part)
parts_in (form.Bare p) = option_map (sign_and false) (part_in p)
parts_in (form.Signed p) = option_map (sign_and true) (part_in p)
parts_in (form.Either signed bare) = option_map (sign_and false) (part_in bare)

abbrev pub parts_of : Component → Option (List Part)
parts_of c = parts_in (form_of c)

-- ---- the items of descriptions

-- the parts of a literal
abbrev pub literal_items : List ℕ → List Item
literal_items text = map item.Part (map part.Byte text)

-- an item of a description reads what a text that has these items sets
abbrev pub AreItems : Meaning → List Item → Type 0
AreItems m is = (line : List ℕ) (v : Values) (rest : List ℕ) (way : List Part) (r new : Record) → SaysItems is line v rest way → set_all way v r ≡ Some new → m r line ≡ Ok (new, rest)

-- the parts of an item, and of items one after the other: all, or those that have to be there
abbrev pub parts_of_item : Bool → Item → List Part
parts_of_item true = possible
parts_of_item false = certain

abbrev pub parts_of_items : Bool → List Item → List Part
parts_of_items true = all_possible
parts_of_items false = all_certain

-- a component that is one part
pub record IsOnePart (t : Tree) (p : Part) : Type 0 where
  pub component : Component
  pub tree_is : t ≡ tree.Part component
  pub part_is : parts_of component ≡ Some (p ∷ [])

-- ---- lists that are kept

abbrev pub parts_kept : Parts → List Part
parts_kept l = take l.count l.parts

abbrev pub items_kept : Items → List Item
items_kept l = take l.count l.items

-- with the items of an item of a description more
pub record AddsItem (language : Language) (t : Tree) (old new : Items) : Type 0 where
  pub more : List Item
  pub read : AreItems (reading language t) more
  pub added : items_kept new ≡ items_kept old ++ more
