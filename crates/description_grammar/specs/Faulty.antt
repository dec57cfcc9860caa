-- The first fault of a text that is no description. A fault's index counts from the first byte of its own construct; after a prefix it is further on.
use Rattle.std.specs.Prelude.{◌≡◌, ℕ, zero, suc, ◌+◌, ◌<◌, Bool, true, false, List, [], ◌∷◌, ◌++◌, length, Err, codes, ◌⊎◌}
use Rattle.base.specs.Bytes.{colon, left_bracket, backslash, right_bracket}
use Rattle.description_lexer.specs.Fault.{Fault, UnclosedOpeningBracket, InvalidModifier, MissingComponentName, Expected, NotSupported}
use Rattle.description_lexer.specs.Further.{further}
use Rattle.description_items.specs.Tree.{Tree, Trees}
use Rattle.description_tables.specs.Component.{component_of}
use Rattle.description_lexer.specs.declared.version.DescriptionVersion.{DescriptionVersion}
use Rattle.description_lexer.specs.declared.version.DescriptionVersion.TheVariants.{One, Two, Three}
use Rattle.description_lexer.specs.Version.{is_three}
use Rattle.description_lexer.specs.Text.{Rest, is_space, is_word_byte, is_no_colon}
use Rattle.description_lexer.specs.Words.{Modifier, is_named, begins, is_escape}
use Rattle.description_grammar.specs.Heads.{Each, Stops, IsWord, SpellsHead, SpellsOpening, SpellsNesting}
use Rattle.description_grammar.specs.Spelling.{SpellsItems, SpellsNested, SpellsAlternatives}

-- a fault after so many bytes
abbrev pub After : ℕ → (Fault → Type 0) → Fault → Type 0
After n Bad fault = (own : Fault) × Bad own × (fault ≡ further n own)

-- ---- components

-- a word that is no modifier: no colon, no key, no value
abbrev pub BadWord : List ℕ → Fault → Type 0
BadWord word fault =
    (Each is_no_colon word × (fault ≡ InvalidModifier word 0))
    ⊎ ((value : List ℕ) × (word ≡ colon ∷ value) × (fault ≡ InvalidModifier [] 0))
    ⊎ ((key : List ℕ) × (0 < length key) × Each is_no_colon key × (word ≡ key ++ colon ∷ []) × (fault ≡ InvalidModifier [] (length word)))

-- the white space after the bracket, if any, else the bracket
abbrev pub missing_at : List ℕ → ℕ
missing_at [] = 0
missing_at (b ∷ bs) = 1

-- in version 1 a second bracket makes an escape
abbrev pub IsSingle : DescriptionVersion → List ℕ → Type 0
IsSingle One rest = begins left_bracket rest ≡ false
IsSingle Two rest = Unit {0}
IsSingle Three rest = Unit {0}

pub record LacksName (v : DescriptionVersion) (text : List ℕ) (fault : Fault) : Type 0 where
  pub blank : List ℕ
  pub rest : List ℕ
  pub parts : text ≡ left_bracket ∷ (blank ++ rest)
  pub single : IsSingle v (blank ++ rest)
  pub spaces : Each is_space blank
  pub no_space : Stops is_space rest
  pub no_word : Stops is_word_byte rest
  pub fault_is : fault ≡ MissingComponentName (missing_at blank)

pub record HasBadWord (v : DescriptionVersion) (text : List ℕ) (fault : Fault) : Type 0 where
  pub head : List ℕ
  pub name : Rest
  pub modifiers : List Modifier
  pub word : List ℕ
  pub rest : List ℕ
  pub parts : text ≡ head ++ (word ++ rest)
  pub is_head : SpellsHead v 0 head name modifiers
  pub apart : 0 < length is_head.last
  pub is_word : IsWord word
  pub no_word : Stops is_word_byte rest
  pub bad : After (length head) (BadWord word) fault

pub record IsUnclosed (v : DescriptionVersion) (text : List ℕ) (fault : Fault) : Type 0 where
  pub head : List ℕ
  pub name : Rest
  pub modifiers : List Modifier
  pub rest : List ℕ
  pub parts : text ≡ head ++ rest
  pub is_head : SpellsHead v 0 head name modifiers
  pub no_space : Stops is_space rest
  pub no_word : Stops is_word_byte rest
  pub open_still : begins right_bracket rest ≡ false
  pub fault_is : fault ≡ UnclosedOpeningBracket 0

-- what is spelled well and means no component
pub record MeansNothing (v : DescriptionVersion) (text : List ℕ) (fault : Fault) : Type 0 where
  pub head : List ℕ
  pub name : Rest
  pub modifiers : List Modifier
  pub rest : List ℕ
  pub parts : text ≡ head ++ right_bracket ∷ rest
  pub is_head : SpellsHead v 0 head name modifiers
  pub means : component_of v name modifiers ≡ Err fault

abbrev pub BadEscape : DescriptionVersion → List ℕ → Fault → Type 0
BadEscape One text fault = ⊥
BadEscape Two text fault = (rest : List ℕ) × (text ≡ backslash ∷ rest) × (is_escape rest ≡ false) × (fault ≡ Expected (codes "valid escape sequence") 0)
BadEscape Three text fault = (rest : List ℕ) × (text ≡ backslash ∷ rest) × (is_escape rest ≡ false) × (fault ≡ Expected (codes "valid escape sequence") 0)

-- ---- nested items

-- a text, and its fault
abbrev pub Wrong : Type 1
Wrong = List ℕ → Fault → Type 0

-- a nesting name that no white space follows
pub record LacksSpace (v : DescriptionVersion) (name what : List ℕ) (text : List ℕ) (fault : Fault) : Type 0 where
  pub first : List ℕ
  pub word : List ℕ
  pub rest : List ℕ
  pub parts : text ≡ left_bracket ∷ (first ++ (word ++ rest))
  pub is_first : Each is_space first
  pub is_word : IsWord word
  pub is_name : is_named v word name ≡ true
  pub no_space : Stops is_space rest
  pub no_word : Stops is_word_byte rest
  pub fault_is : fault ≡ Expected what (1 + length first + length word)

-- an opening that no bracket follows
pub record LacksBracket (v : DescriptionVersion) (name : List ℕ) (text : List ℕ) (fault : Fault) : Type 0 where
  pub opening : List ℕ
  pub rest : List ℕ
  pub parts : text ≡ opening ++ rest
  pub is_opening : SpellsOpening v name opening
  pub no_space : Stops is_space rest
  pub no_bracket : begins left_bracket rest ≡ false
  pub fault_is : fault ≡ Expected (codes "opening bracket") (length opening)

-- the fault of a nested description is the text's
pub record HasFaultInside (v : DescriptionVersion) (name : List ℕ) (Before : List ℕ → Type 0) (Deeper : Wrong) (text : List ℕ) (fault : Fault) : Type 0 where
  pub opening : List ℕ
  pub before : List ℕ
  pub rest : List ℕ
  pub parts : text ≡ opening ++ (before ++ rest)
  pub is_opening : SpellsOpening v name opening
  pub is_before : Before before
  pub is_bad : After (length opening + length before) (Deeper rest) fault

pub record IsNestingUnclosed (v : DescriptionVersion) (name : List ℕ) (Inside : List ℕ → List ℕ → Type 0) (text : List ℕ) (fault : Fault) : Type 0 where
  pub opening : List ℕ
  pub inside : List ℕ
  pub rest : List ℕ
  pub parts : text ≡ opening ++ (inside ++ rest)
  pub is_opening : SpellsOpening v name opening
  pub is_inside : Inside inside rest
  pub no_space : Stops is_space rest
  pub open_still : begins right_bracket rest ≡ false
  pub fault_is : fault ≡ UnclosedOpeningBracket 0

-- versions 1 and 2 have no nested items
pub record IsUnsupported (v : DescriptionVersion) (name : List ℕ) (Inside : List ℕ → List ℕ → Type 0) (text : List ℕ) (fault : Fault) : Type 0 where
  pub own : List ℕ
  pub rest : List ℕ
  pub parts : text ≡ own ++ rest
  pub not_three : is_three v ≡ false
  pub is_own : SpellsNesting v name own (λ inside. Inside inside (right_bracket ∷ rest))
  pub fault_is : fault ≡ NotSupported (codes "nested item") (codes "versions 1 and 2") 0

abbrev pub BadNesting : DescriptionVersion → List ℕ → List ℕ → (List ℕ → Type 0) → (List ℕ → List ℕ → Type 0) → Wrong → Wrong
BadNesting v name what Before Inside Deeper text fault =
    LacksSpace v name what text fault
    ⊎ LacksBracket v name text fault
    ⊎ HasFaultInside v name Before Deeper text fault
    ⊎ IsNestingUnclosed v name Inside text fault
    ⊎ IsUnsupported v name Inside text fault

-- one nested description
abbrev pub IsOne : DescriptionVersion → ℕ → List ℕ → List ℕ → Type 0
IsOne v levels inside rest = (t : Tree) × SpellsNested v levels inside t

-- one nested description or more, and no other after them
abbrev pub AreSome : DescriptionVersion → ℕ → List ℕ → List ℕ → Type 0
AreSome v levels inside rest = (ts : Trees) × (0 < length inside) × SpellsAlternatives v levels inside ts × (begins left_bracket rest ≡ false)

-- what stands before a nested description with a fault: nothing, or alternatives
abbrev pub IsNothing : List ℕ → Type 0
IsNothing before = before ≡ []

abbrev pub AreBefore : DescriptionVersion → ℕ → List ℕ → Type 0
AreBefore v levels before = (ts : Trees) × SpellsAlternatives v levels before ts

abbrev pub BadOptional : DescriptionVersion → ℕ → Wrong → Wrong
BadOptional v levels Deeper = BadNesting v (codes "optional") (codes "whitespace after `optional`") IsNothing (IsOne v levels) Deeper

abbrev pub BadFirst : DescriptionVersion → ℕ → Wrong → Wrong
BadFirst v levels Deeper = BadNesting v (codes "first") (codes "whitespace after `first`") (AreBefore v levels) (AreSome v levels) Deeper

-- ---- texts

-- the construct at the start of the text is bad
abbrev pub BadItem : DescriptionVersion → ℕ → Wrong → Wrong
BadItem v levels Deeper text fault =
    BadEscape v text fault
    ⊎ LacksName v text fault
    ⊎ HasBadWord v text fault
    ⊎ IsUnclosed v text fault
    ⊎ MeansNothing v text fault
    ⊎ BadOptional v levels Deeper text fault
    ⊎ BadFirst v levels Deeper text fault

-- spelled items, followed by a bad construct
pub record FaultyItems (v : DescriptionVersion) (inner : Bool) (levels : ℕ) (Deeper : Wrong) (text : List ℕ) (fault : Fault) : Type 0 where
  pub items : Trees
  pub prefix : List ℕ
  pub bad : List ℕ
  pub parts : text ≡ prefix ++ bad
  pub is_prefix : SpellsItems v inner levels prefix items
  pub is_bad : After (length prefix) (BadItem v levels Deeper bad) fault

-- a nested description opens one level more than there may be; or it holds a fault; or the text ends in it
unfoldable pub FaultyNested : DescriptionVersion → ℕ → Wrong
FaultyNested v zero text fault = (rest : List ℕ) × (text ≡ left_bracket ∷ rest) × (fault ≡ NotSupported (codes "nesting past 127 levels") (codes "format descriptions") 0)
FaultyNested v (suc levels) text fault =
    (rest : List ℕ) × (text ≡ left_bracket ∷ rest) × (After 1 (FaultyItems v true levels (FaultyNested v levels) rest) fault
    ⊎ ((items : Trees) × SpellsItems v true levels rest items × (fault ≡ UnclosedOpeningBracket 0)))

-- the first fault of the whole text
abbrev pub Faulty : DescriptionVersion → List ℕ → Fault → Type 0
Faulty v text fault = FaultyItems v false 127 (FaultyNested v 127) text fault
