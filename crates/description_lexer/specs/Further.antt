-- Faults after more text.
use Rattle.std.specs.Prelude.{ℕ, ◌+◌}
use Rattle.description_lexer.specs.Fault.{Fault, UnclosedOpeningBracket, InvalidComponentName, InvalidModifier, MissingComponentName, MissingRequiredModifier, Expected, NotSupported, DuplicateModifier, InvalidModifierCombination}

-- the same fault, so many bytes further on
abbrev pub further : ℕ → Fault → Fault
further n (UnclosedOpeningBracket i) = UnclosedOpeningBracket (n + i)
further n (InvalidComponentName name i) = InvalidComponentName name (n + i)
further n (InvalidModifier value i) = InvalidModifier value (n + i)
further n (MissingComponentName i) = MissingComponentName (n + i)
further n (MissingRequiredModifier name i) = MissingRequiredModifier name (n + i)
further n (Expected what i) = Expected what (n + i)
further n (NotSupported what context i) = NotSupported what context (n + i)
further n (DuplicateModifier name i) = DuplicateModifier name (n + i)
further n (InvalidModifierCombination modifier context i) = InvalidModifierCombination modifier context (n + i)
