-- The texts of strftime: which items a text spells.
use Rattle.std.specs.Prelude.{◌≡◌, ℕ, ◌<◌, List, [], ◌∷◌, ◌++◌, length, Option, Some, None, codes, ◌⊎◌}
use Rattle.base.specs.Bytes.{percent}
use Rattle.description_modifiers.specs.declared.choices.Padding.{Padding}
use Rattle.description_modifiers.specs.declared.choices.Padding.TheVariants as padding
use Rattle.description_items.specs.Tree.{Tree, Literal}
use Rattle.description_strftime.specs.Letters.{letter_items}
use Rattle.description_strftime.specs.Text.{is_plain, Each, Stops, joined}

-- a flag as it is written
abbrev pub flag_text : Option Padding → List ℕ
flag_text None = []
flag_text (Some padding.Space) = codes "_"
flag_text (Some padding.None) = codes "-"
flag_text (Some padding.Zero) = codes "0"

-- a literal: one byte or more, up to the next percent sign
pub record SpellsText (own rest : List ℕ) (items : List Tree) : Type 0 where
  pub some : 0 < length own
  pub plain : Each is_plain own
  pub ends : Stops is_plain rest
  pub means : items ≡ Literal own ∷ []

-- a percent sign, a flag where one stands, and a letter
pub record SpellsConversion (own : List ℕ) (items : List Tree) : Type 0 where
  pub flag : Option Padding
  pub letter : ℕ
  pub parts : own ≡ percent ∷ (flag_text flag ++ letter ∷ [])
  pub means : letter_items flag letter ≡ Some items

-- a part of a text, where this rest follows
abbrev pub SpellsPart : List ℕ → List ℕ → List Tree → Type 0
SpellsPart own rest items = SpellsText own rest items ⊎ SpellsConversion own items

-- parts one after the other, and then a rest
abbrev pub SpellsPrefix : List ℕ → List (List Tree) → List ℕ → Type 0
SpellsPrefix text [] rest = text ≡ rest
SpellsPrefix text (part ∷ parts) rest = (own more : List ℕ) × (text ≡ own ++ more) × SpellsPart own more part × SpellsPrefix more parts rest

-- a whole text, and the items of its parts
pub record SpellsStrftime (text : List ℕ) (items : List Tree) : Type 0 where
  pub parts : List (List Tree)
  pub prefix : SpellsPrefix text parts []
  pub all : items ≡ joined parts
