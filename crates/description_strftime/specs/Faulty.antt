-- The first fault of a text that is none of strftime.
use Rattle.std.specs.Prelude.{◌≡◌, ℕ, ◌+◌, List, ◌∷◌, ◌++◌, length, Option, Some, None, codes, ◌⊎◌}
use Rattle.base.specs.Bytes.{percent}
use Rattle.description_modifiers.specs.declared.choices.Padding.{Padding}
use Rattle.description_lexer.specs.Fault.{Fault, InvalidComponentName, Expected, NotSupported}
use Rattle.description_items.specs.Tree.{Tree}
use Rattle.description_strftime.specs.Letters.{flag_of, letter_items, refused}
use Rattle.description_strftime.specs.Text.{is_continuation, Each, Stops}
use Rattle.description_strftime.specs.Spelled.{flag_text, SpellsPrefix}

-- what stands before the letter
abbrev pub head : Option Padding → List ℕ
head flag = percent ∷ flag_text flag

-- the text ends where the letter is due
pub record LacksLetter (at : ℕ) (text : List ℕ) (fault : Fault) : Type 0 where
  pub flag : Option Padding
  pub parts : text ≡ head flag
  pub fault_is : fault ≡ Expected (codes "component letter") at

-- a letter or sign that is not supported
pub record HasRefused (at : ℕ) (text : List ℕ) (fault : Fault) : Type 0 where
  pub flag : Option Padding
  pub letter : ℕ
  pub rest : List ℕ
  pub what : List ℕ
  pub parts : text ≡ head flag ++ letter ∷ rest
  pub is_refused : refused letter ≡ Some what
  pub fault_is : fault ≡ NotSupported what (codes "strftime") (at + length (head flag))

-- where no flag is written, the character is none itself
abbrev pub IsNoFlag : Option Padding → ℕ → Type 0
IsNoFlag None b = flag_of b ≡ None
IsNoFlag (Some padding) b = Unit {0}

-- a character that is no letter
pub record HasUnknown (at : ℕ) (text : List ℕ) (fault : Fault) : Type 0 where
  pub flag : Option Padding
  pub first : ℕ
  pub more : List ℕ
  pub rest : List ℕ
  pub parts : text ≡ head flag ++ first ∷ (more ++ rest)
  pub is_more : Each is_continuation more
  pub ends : Stops is_continuation rest
  pub no_flag : IsNoFlag flag first
  pub no_letter : letter_items flag first ≡ None
  pub not_refused : refused first ≡ None
  pub fault_is : fault ≡ InvalidComponentName (first ∷ more) (at + length (head flag))

-- the conversion at the start of the text is bad
abbrev pub BadConversion : ℕ → List ℕ → Fault → Type 0
BadConversion at text fault = LacksLetter at text fault ⊎ HasRefused at text fault ⊎ HasUnknown at text fault

-- spelled parts, followed by a bad conversion
pub record FaultyStrftime (text : List ℕ) (fault : Fault) : Type 0 where
  pub parts : List (List Tree)
  pub bad : List ℕ
  pub at : ℕ
  pub prefix : SpellsPrefix text parts bad
  pub place : length text ≡ at + length bad
  pub is_bad : BadConversion at bad fault
