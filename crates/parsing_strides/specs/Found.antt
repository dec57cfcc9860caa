-- What was found in a text, by what it means.
use Rattle.std.specs.Prelude.{◌≡◌, ℕ, nat_lt, Bool, true, false, List, get_or}
use Rattle.parsing_combinator.specs.Shape.{is_sign}
use Rattle.parsing_layout.specs.Layout.{Values, Says}
use Rattle.parsing_layout.specs.declared.parts.Field.{Field}
use Rattle.parsing_layout.specs.declared.parts.Part.{Part}
use Rattle.parsing_layout.specs.Items.{SaysItems, all_possible}
use Rattle.parsing_layout.specs.declared.items.Item.{Item}
use Rattle.parsing_layout.specs.Said.{place_of, fields_of}
use Rattle.parsing_layout.specs.declared.parts.Field.TheVariants as field
use Rattle.parsing_strides.specs.declared.found.Found.{Found}

-- every field but the last three has a lane, at its place
abbrev pub is_lane : Field → Bool
is_lane f = nat_lt (place_of f) 14

abbrev pub values_in : Found → Values
values_in found field.Year = found.year
values_in found field.Nanosecond = found.fraction
values_in found field.Unix = found.unix
values_in found f = get_or found.lanes (place_of f) 0

-- a text says parts, whatever the numbers of other fields are
abbrev pub SaysAsFound : List Part → List ℕ → List ℕ → Found → Type 0
SaysAsFound ps text rest found = (v : Values) → ((f : Field) → fields_of ps f ≡ true → v f ≡ values_in found f) → is_sign (v field.Sign) ≡ true → Says ps text v rest

-- nothing is changed but the numbers that parts say
abbrev pub KeepOthers : List Part → Found → Found → Type 0
KeepOthers ps old new = (f : Field) → fields_of ps f ≡ false → values_in new f ≡ values_in old f

-- a text says items by these parts, whatever the numbers of other fields are; and these are what is changed
pub record SayItems (is : List Item) (text rest : List ℕ) (old new : Found) : Type 0 where
  pub way : List Part
  pub says : (v : Values) → ((f : Field) → fields_of way f ≡ true → v f ≡ values_in new f) → is_sign (v field.Sign) ≡ true → SaysItems is text v rest way
  pub kept : KeepOthers way old new
  pub within : (f : Field) → fields_of (all_possible is) f ≡ false → fields_of way f ≡ false
