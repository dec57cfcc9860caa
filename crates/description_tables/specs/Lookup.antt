-- Words and what they mean, as tables.
use Rattle.std.specs.Prelude.{ℕ, List, [], ◌∷◌, Option, Some, None, if◌then◌else◌}
use Rattle.description_lexer.specs.declared.version.DescriptionVersion.{DescriptionVersion}
use Rattle.description_lexer.specs.Words.{is_named}

-- words, each with a value beside it
abbrev pub Table : Type 0 → Type 0
Table A = List (List ℕ × A)

-- the value beside the first word that this one is
unfoldable pub lookup : {A : Type 0} → DescriptionVersion → Table A → List ℕ → Option A
lookup v [] word = None
lookup v (entry ∷ entries) word = if is_named v word entry.0 then Some entry.1 else lookup v entries word
