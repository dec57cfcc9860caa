-- A fault of a description, without where its words lie in memory.
use Rattle.std.specs.Prelude.{ℕ, List}
use Rattle.description_lexer.specs.declared.invalid_format_description.InvalidFormatDescription.{InvalidFormatDescription}
use Rattle.description_lexer.specs.declared.invalid_format_description.InvalidFormatDescription.TheVariants as invalid

pub data Fault : Type 0 where
  UnclosedOpeningBracket : (index : ℕ) → Fault
  InvalidComponentName : (name : List ℕ) → (index : ℕ) → Fault
  InvalidModifier : (value : List ℕ) → (index : ℕ) → Fault
  MissingComponentName : (index : ℕ) → Fault
  MissingRequiredModifier : (name : List ℕ) → (index : ℕ) → Fault
  Expected : (what : List ℕ) → (index : ℕ) → Fault
  NotSupported : (what : List ℕ) → (context : List ℕ) → (index : ℕ) → Fault
  DuplicateModifier : (name : List ℕ) → (index : ℕ) → Fault
  InvalidModifierCombination : (modifier : List ℕ) → (context : List ℕ) → (index : ℕ) → Fault

abbrev pub fault_of : InvalidFormatDescription → Fault
fault_of (invalid.UnclosedOpeningBracket i) = UnclosedOpeningBracket i
fault_of (invalid.InvalidComponentName n i) = InvalidComponentName n.now i
fault_of (invalid.InvalidModifier n i) = InvalidModifier n.now i
fault_of (invalid.MissingComponentName i) = MissingComponentName i
fault_of (invalid.MissingRequiredModifier n i) = MissingRequiredModifier n.now i
fault_of (invalid.Expected n i) = Expected n.now i
fault_of (invalid.NotSupported n c i) = NotSupported n.now c.now i
fault_of (invalid.DuplicateModifier n i) = DuplicateModifier n.now i
fault_of (invalid.InvalidModifierCombination n c i) = InvalidModifierCombination n.now c.now i
