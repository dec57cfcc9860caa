-- What is said of a fault.
use Rattle.std.specs.Prelude.{ℕ, List, ◌++◌, codes}
use Rattle.std.specs.Fmt.{decimal}
use Rattle.description_lexer.specs.Fault.{Fault, UnclosedOpeningBracket, InvalidComponentName, InvalidModifier, MissingComponentName, MissingRequiredModifier, Expected, NotSupported, DuplicateModifier, InvalidModifierCombination}

abbrev pub sentence : Fault → List ℕ
sentence (UnclosedOpeningBracket i) = codes "unclosed opening bracket at byte index " ++ decimal i
sentence (InvalidComponentName n i) = codes "invalid component name `" ++ (n ++ (codes "` at byte index " ++ decimal i))
sentence (InvalidModifier n i) = codes "invalid modifier `" ++ (n ++ (codes "` at byte index " ++ decimal i))
sentence (MissingComponentName i) = codes "missing component name at byte index " ++ decimal i
sentence (MissingRequiredModifier n i) = codes "missing required modifier `" ++ (n ++ (codes "` at byte index " ++ decimal i))
sentence (Expected n i) = codes "expected " ++ (n ++ (codes " at byte index " ++ decimal i))
sentence (NotSupported n c i) = n ++ (codes " is not supported in " ++ (c ++ (codes " at byte index " ++ decimal i)))
sentence (DuplicateModifier n i) = codes "duplicate modifier `" ++ (n ++ (codes "` at byte index " ++ decimal i))
sentence (InvalidModifierCombination n c i) = codes "modifier `" ++ (n ++ (codes "` does not apply to " ++ (c ++ (codes " at byte index " ++ decimal i))))
