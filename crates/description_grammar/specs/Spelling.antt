-- What descriptions are.
use Rattle.std.specs.Prelude.{◌≡◌, ℕ, suc, ◌<◌, Bool, true, false, List, [], ◌∷◌, ◌++◌, length, codes, ◌⊎◌}
use Rattle.base.specs.Bytes.{left_bracket, right_bracket}
use Rattle.description_items.specs.Tree.{Tree, Literal, Part, Compound, Optional, First, Trees, none, also, listed}
use Rattle.description_lexer.specs.declared.version.DescriptionVersion.{DescriptionVersion}
use Rattle.description_lexer.specs.Version.{is_three}
use Rattle.description_lexer.specs.Text.{is_space}
use Rattle.description_grammar.specs.Heads.{Each, SpellsComponent, SpellsLiteral, SpellsEscape, SpellsNesting}

abbrev mutual
  -- a text is joined of items, where so many levels of nesting may be opened
  pub SpellsItems : DescriptionVersion → Bool → ℕ → List ℕ → Trees → Type 0
  SpellsItems v inner levels text none = text ≡ []
  SpellsItems v inner levels text (also t ts) = (own more : List ℕ) × (text ≡ own ++ more) × SpellsItem v inner levels own more t × SpellsItems v inner levels more ts

  -- one item, with more after it; only version 3 has nested items
  pub SpellsItem : DescriptionVersion → Bool → ℕ → List ℕ → List ℕ → Tree → Type 0
  SpellsItem v inner levels own more (Literal bytes) = ((own ≡ bytes) × SpellsLiteral v inner bytes more) ⊎ SpellsEscape v own bytes
  SpellsItem v inner levels own more (Part c) = SpellsComponent v own c
  SpellsItem v inner levels own more (Optional format t) = (is_three v ≡ true) × (format ≡ true) × SpellsNesting v (codes "optional") own (λ inside. SpellsNested v levels inside t)
  SpellsItem v inner levels own more (First ts) = (is_three v ≡ true) × SpellsNesting v (codes "first") own (λ inside. (0 < length inside) × SpellsAlternatives v levels inside ts)
  SpellsItem v inner levels own more (Compound ts) = ⊥

  -- a nested description between its brackets, and the white space after it
  pub SpellsNested : DescriptionVersion → ℕ → List ℕ → Tree → Type 0
  SpellsNested v levels own (Compound ts) = (fewer : ℕ) × (text blank : List ℕ) × (levels ≡ suc fewer) × (own ≡ left_bracket ∷ (text ++ right_bracket ∷ blank)) × Each is_space blank × SpellsItems v true fewer text ts
  SpellsNested v levels own (Literal bytes) = ⊥
  SpellsNested v levels own (Part c) = ⊥
  SpellsNested v levels own (Optional format t) = ⊥
  SpellsNested v levels own (First ts) = ⊥

  -- nested descriptions, one after the other
  pub SpellsAlternatives : DescriptionVersion → ℕ → List ℕ → Trees → Type 0
  SpellsAlternatives v levels own none = own ≡ []
  SpellsAlternatives v levels own (also t ts) = (nested others : List ℕ) × (own ≡ nested ++ others) × SpellsNested v levels nested t × SpellsAlternatives v levels others ts

-- the whole text is these items
abbrev pub Spells : DescriptionVersion → List ℕ → List Tree → Type 0
Spells v text ts = SpellsItems v false 127 text (listed ts)

-- the tree of a text is its items, one after the other
abbrev pub SpellsTree : DescriptionVersion → List ℕ → Tree → Type 0
SpellsTree v text (Compound ts) = SpellsItems v false 127 text ts
SpellsTree v text (Literal bytes) = ⊥
SpellsTree v text (Part c) = ⊥
SpellsTree v text (Optional format t) = ⊥
SpellsTree v text (First ts) = ⊥
