-- What version 2 makes of a text of version 3.
use Rattle.std.specs.Prelude.{◌≡◌, ℕ, ◌||◌, Bool, true, false, List, [], ◌∷◌, ◌++◌, ◌⊎◌, if◌then◌else◌, codes}
use Rattle.std.specs.Str.{bytes_eq}
use Rattle.description_items.specs.declared.component.Component.{Component}
use Rattle.description_items.specs.declared.component.Component.TheVariants as component
use Rattle.description_items.specs.Tree.{Tree, Literal, Part, Compound, Optional, First}
use Rattle.description_lexer.specs.declared.version.DescriptionVersion.TheVariants.{Two, Three}
use Rattle.description_lexer.specs.Words.{Modifier}
use Rattle.description_grammar.specs.Heads.{SpellsComponent}
use Rattle.description_grammar.specs.Spelling.{SpellsItem, Spells}

-- a full or century year of the standard range, in the extended one; any other component as it is
abbrev pub extended : Component → Component
extended (component.CalendarYearFullStandardRange m) = component.CalendarYearFullExtendedRange (record { padding = m.padding; sign_is_mandatory = m.sign_is_mandatory })
extended (component.CalendarYearCenturyStandardRange m) = component.CalendarYearCenturyExtendedRange (record { padding = m.padding; sign_is_mandatory = m.sign_is_mandatory })
extended (component.IsoYearFullStandardRange m) = component.IsoYearFullExtendedRange (record { padding = m.padding; sign_is_mandatory = m.sign_is_mandatory })
extended (component.IsoYearCenturyStandardRange m) = component.IsoYearCenturyExtendedRange (record { padding = m.padding; sign_is_mandatory = m.sign_is_mandatory })
extended other = other

-- whether a range is among the modifiers
abbrev pub has_range : List Modifier → Bool
has_range [] = false
has_range (m ∷ ms) = bytes_eq m.key.text (codes "range") || has_range ms

-- a component of version 3, and what version 2 has for the same text: the same, where no year lacks its range
abbrev pub AsInTwo : List ℕ → Component → Component → Type 0
AsInTwo own c d = (h : SpellsComponent Three own c) × (d ≡ (if has_range h.modifiers then c else extended c))

-- neither optional items nor alternatives
abbrev pub IsFlat : List Tree → Type 0
IsFlat [] = Unit {0}
IsFlat (Literal bytes ∷ ts) = IsFlat ts
IsFlat (Part c ∷ ts) = IsFlat ts
IsFlat (Compound us ∷ ts) = ⊥
IsFlat (Optional format t ∷ ts) = ⊥
IsFlat (First us ∷ ts) = ⊥

-- the items of version 3 and those of version 2, text by text
abbrev pub AllAsInTwo : List ℕ → List Tree → List Tree → Type 0
AllAsInTwo text [] us = (text ≡ []) × (us ≡ [])
AllAsInTwo text (Literal bytes ∷ ts) us = (own more : List ℕ) × (others : List Tree) × (text ≡ own ++ more) × (us ≡ Literal bytes ∷ others) × AllAsInTwo more ts others
AllAsInTwo text (Part c ∷ ts) us = (own more : List ℕ) × (d : Component) × (others : List Tree) × (text ≡ own ++ more) × (us ≡ Part d ∷ others) × AsInTwo own c d × AllAsInTwo more ts others
AllAsInTwo text (Compound vs ∷ ts) us = ⊥
AllAsInTwo text (Optional format t ∷ ts) us = ⊥
AllAsInTwo text (First vs ∷ ts) us = ⊥

-- version 2 accepts the text, with the same items
pub record InTwo (text : List ℕ) (ts : List Tree) : Type 0 where
  pub items : List Tree
  pub spells : Spells Two text items
  pub same : AllAsInTwo text ts items

-- no full or century year of the standard range, or a range among the modifiers
abbrev pub SaysRange : List Modifier → Component → Type 0
SaysRange ms c = (extended c ≡ c) ⊎ (has_range ms ≡ true)

-- a text of version 3 of literals and components, where each full and century year says its range
abbrev pub SpellsRanged : List ℕ → List Tree → Type 0
SpellsRanged text [] = text ≡ []
SpellsRanged text (Literal bytes ∷ ts) = (own more : List ℕ) × (text ≡ own ++ more) × SpellsItem Three false 127 own more (Literal bytes) × SpellsRanged more ts
SpellsRanged text (Part c ∷ ts) = (own more : List ℕ) × (text ≡ own ++ more) × (h : SpellsComponent Three own c) × SaysRange h.modifiers c × SpellsRanged more ts
SpellsRanged text (Compound us ∷ ts) = ⊥
SpellsRanged text (Optional format t ∷ ts) = ⊥
SpellsRanged text (First us ∷ ts) = ⊥
