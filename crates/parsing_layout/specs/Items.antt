-- Items of a layout, some of which may be missing, and the parts that stand in a text.
use Rattle.std.specs.Prelude.{◌≡◌, ◌⊎◌, ℕ, Bool, true, false, List, [], ◌∷◌, ◌++◌, None}
use Rattle.parsing_combinator.specs.Pieces.{byte}
use Rattle.parsing_layout.specs.Layout.{Part, Values, Says}
use Rattle.parsing_layout.specs.declared.parts.Part.TheVariants as part
pub use Rattle.parsing_layout.specs.declared.items.Item.{Item}
use Rattle.parsing_layout.specs.declared.items.Item.TheVariants as item

-- the parts of an item stand in a text
abbrev pub IsThere : List Part → List ℕ → Values → List ℕ → List Part → Type 0
IsThere ps bytes v rest way = (way ≡ ps) × Says ps bytes v rest

-- it begins with another byte, and none of the parts stands there
pub record IsMissing (b : ℕ) (bytes rest : List ℕ) (way : List Part) : Type 0 where
  pub none : way ≡ []
  pub same : bytes ≡ rest
  pub other : byte b bytes ≡ None

abbrev pub SaysItem : Item → List ℕ → Values → List ℕ → List Part → Type 0
SaysItem (item.Part p) bytes v rest way = IsThere (p ∷ []) bytes v rest way
SaysItem (item.Optional b p) bytes v rest way = IsThere (part.Byte b ∷ p ∷ []) bytes v rest way ⊎ IsMissing b bytes rest way

-- a text begins with the items, by these parts, whose numbers are these, and this stands after them
abbrev pub SaysItems : List Item → List ℕ → Values → List ℕ → List Part → Type 0
SaysItems [] bytes v rest way = (way ≡ []) × (bytes ≡ rest)
SaysItems (i ∷ is) bytes v rest way = (mid : List ℕ) × (first others : List Part) × (way ≡ first ++ others) × SaysItem i bytes v mid first × SaysItems is mid v rest others

-- the parts that have to be there, and all that may be
abbrev pub certain : Item → List Part
certain (item.Part p) = p ∷ []
certain (item.Optional b p) = []

abbrev pub possible : Item → List Part
possible (item.Part p) = p ∷ []
possible (item.Optional b p) = part.Byte b ∷ p ∷ []

abbrev pub all_certain : List Item → List Part
all_certain [] = []
all_certain (i ∷ is) = certain i ++ all_certain is

abbrev pub all_possible : List Item → List Part
all_possible [] = []
all_possible (i ∷ is) = possible i ++ all_possible is

-- none of them may be missing
abbrev pub are_certain : List Item → Bool
are_certain [] = true
are_certain (item.Part p ∷ is) = are_certain is
are_certain (item.Optional b p ∷ is) = false
