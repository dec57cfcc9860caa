-- How literals and what stands in brackets are spelled. A text with words to point at stands from an index on.
use Rattle.std.specs.Prelude.{◌≡◌, ℕ, ◌+◌, ◌<◌, ◌||◌, Bool, true, false, List, [], ◌∷◌, ◌++◌, length, Ok, codes, ◌⊎◌}
use Rattle.base.specs.Bytes.{colon, left_bracket, backslash, right_bracket}
use Rattle.description_items.specs.declared.component.Component.{Component}
use Rattle.description_tables.specs.Component.{component_of}
use Rattle.description_lexer.specs.declared.version.DescriptionVersion.{DescriptionVersion}
use Rattle.description_lexer.specs.declared.version.DescriptionVersion.TheVariants.{One, Two, Three}
use Rattle.description_lexer.specs.Text.{Rest, is_space, is_word_byte, is_plain, is_no_colon}
use Rattle.description_lexer.specs.Words.{Modifier, is_named}
pub use Rattle.description_lexer.specs.Text.{Each, Stops}

-- a word: one such byte or more
abbrev pub IsWord : List ℕ → Type 0
IsWord w = (0 < length w) × Each is_word_byte w

-- white space, a key without a colon, a colon, a value
pub record SpellsModifier (at : ℕ) (own : List ℕ) (m : Modifier) : Type 0 where
  pub blank : List ℕ
  pub parts : own ≡ blank ++ (m.key.text ++ colon ∷ m.value.text)
  pub is_space : Each is_space blank
  pub some_space : 0 < length blank
  pub is_key : IsWord m.key.text
  pub no_colon : Each is_no_colon m.key.text
  pub is_value : IsWord m.value.text
  pub key_at : m.key.index ≡ at + length blank
  pub value_at : m.value.index ≡ at + length blank + length m.key.text + 1

-- one after the other
abbrev pub SpellsModifiers : ℕ → List ℕ → List Modifier → Type 0
SpellsModifiers at own [] = own ≡ []
SpellsModifiers at own (m ∷ ms) = (first rest : List ℕ) × (own ≡ first ++ rest) × SpellsModifier at first m × SpellsModifiers (at + length first) rest ms

-- the names that nested descriptions follow
abbrev pub is_nesting : DescriptionVersion → List ℕ → Bool
is_nesting v word = is_named v word (codes "optional") || is_named v word (codes "first")

-- a bracket, a name, its modifiers, and white space where it may stand
pub record SpellsHead (v : DescriptionVersion) (at : ℕ) (own : List ℕ) (name : Rest) (ms : List Modifier) : Type 0 where
  pub first : List ℕ
  pub middle : List ℕ
  pub last : List ℕ
  pub parts : own ≡ left_bracket ∷ (first ++ (name.text ++ (middle ++ last)))
  pub is_first : Each is_space first
  pub is_name : IsWord name.text
  pub no_nesting : is_nesting v name.text ≡ false
  pub name_at : name.index ≡ at + 1 + length first
  pub modifiers : SpellsModifiers (at + 1 + length first + length name.text) middle ms
  pub is_last : Each is_space last

-- a head and its closing bracket, with a name and modifiers that mean a component; where it stands does not matter
pub record SpellsComponent (v : DescriptionVersion) (own : List ℕ) (c : Component) : Type 0 where
  pub head : List ℕ
  pub name : Rest
  pub modifiers : List Modifier
  pub parts : own ≡ head ++ right_bracket ∷ []
  pub is_head : SpellsHead v 0 head name modifiers
  pub means : component_of v name modifiers ≡ Ok c

-- a byte that a literal may begin with; inside a nested description a closing bracket ends it
abbrev pub MayBegin : DescriptionVersion → Bool → ℕ → Type 0
MayBegin One inner b = (b ≡ left_bracket → ⊥) × (inner ≡ true → b ≡ right_bracket → ⊥)
MayBegin Two inner b = (b ≡ left_bracket → ⊥) × (inner ≡ true → b ≡ right_bracket → ⊥) × (b ≡ backslash → ⊥)
MayBegin Three inner b = (b ≡ left_bracket → ⊥) × (inner ≡ true → b ≡ right_bracket → ⊥) × (b ≡ backslash → ⊥)

-- a literal as it stands, as long as it goes on
abbrev pub SpellsLiteral : DescriptionVersion → Bool → List ℕ → List ℕ → Type 0
SpellsLiteral v inner [] more = ⊥
SpellsLiteral v inner (b ∷ bs) more = MayBegin v inner b × Each (is_plain v) bs × Stops (is_plain v) more

abbrev pub IsEscapable : ℕ → Type 0
IsEscapable b = (b ≡ left_bracket) ⊎ (b ≡ backslash) ⊎ (b ≡ right_bracket)

-- two brackets in version 1; else a backslash and what it takes as it stands
abbrev pub SpellsEscape : DescriptionVersion → List ℕ → List ℕ → Type 0
SpellsEscape One own bytes = (own ≡ left_bracket ∷ left_bracket ∷ []) × (bytes ≡ left_bracket ∷ [])
SpellsEscape Two own bytes = (b : ℕ) × IsEscapable b × (own ≡ backslash ∷ b ∷ []) × (bytes ≡ b ∷ [])
SpellsEscape Three own bytes = (b : ℕ) × IsEscapable b × (own ≡ backslash ∷ b ∷ []) × (bytes ≡ b ∷ [])

-- a bracket, white space where it may stand, a nesting name, and white space that must
pub record SpellsOpening (v : DescriptionVersion) (name own : List ℕ) : Type 0 where
  pub first : List ℕ
  pub word : List ℕ
  pub blank : List ℕ
  pub parts : own ≡ left_bracket ∷ (first ++ (word ++ blank))
  pub is_first : Each is_space first
  pub is_word : IsWord word
  pub is_name : is_named v word name ≡ true
  pub spaces : Each is_space blank
  pub some_space : 0 < length blank

-- an opening, what is nested, and the closing bracket
pub record SpellsNesting (v : DescriptionVersion) (name own : List ℕ) (Inside : List ℕ → Type 0) : Type 0 where
  pub opening : List ℕ
  pub inside : List ℕ
  pub parts : own ≡ opening ++ (inside ++ right_bracket ∷ [])
  pub is_opening : SpellsOpening v name opening
  pub is_inside : Inside inside
