-- What the sources say of a line, each of which reads it as a whole.
use Rattle.std.specs.Prelude.{◌≡◌, ℕ, ◌+◌, ◌==◌, List, [], ◌∷◌, ◌++◌, Option, None, Some, Ok, IsErr, is_ok, if◌then◌else◌, unwrap_or}
use Rattle.std.specs.Fmt.{decimal}
use Rattle.std.specs.List.{All}
use Rattle.base.specs.Bytes.{tab}
use Rattle.datetime_wall.specs.Wall.{Shown}
use Rattle.instants_sources.specs.Grammar.{Grammar}
use Rattle.instants_sources.specs.Named.{named}
use Rattle.instants_timeline.specs.Place.{Setting, shown_or_refused, place_text}

-- the answer of a source to a line, or its fault
unfoldable pub text_by : Setting → List ℕ → Grammar → List ℕ
text_by setting line grammar = place_text (shown_or_refused setting.target (named setting.assumed grammar line))

-- the same after the number of the source and a tab
unfoldable pub said_by : Setting → List ℕ → ℕ → Grammar → List ℕ
said_by setting line number grammar = (decimal number ++ tab ∷ []) ++ text_by setting line grammar

-- what the first source says that names a moment; the sources are numbered from here on
unfoldable pub first_answer : Setting → List ℕ → ℕ → List Grammar → Option (List ℕ)
first_answer setting line number [] = None
first_answer setting line number (grammar ∷ others) = if is_ok (named setting.assumed grammar line) then Some (said_by setting line number grammar) else first_answer setting line (number + 1) others

-- a tab stands before each number but 1
abbrev pub parted : ℕ → List ℕ
parted number = if number == 1 then [] else tab ∷ []

-- what all sources say, one after another
unfoldable pub all_said : Setting → List ℕ → ℕ → List Grammar → List ℕ
all_said setting line number [] = []
all_said setting line number (grammar ∷ others) = (parted number ++ said_by setting line number grammar) ++ all_said setting line (number + 1) others

-- the answer of the first source that names a moment, and where none does what all say
unfoldable pub explained : Setting → List ℕ → List ℕ
explained setting line = unwrap_or (first_answer setting line 1 setting.sources) (all_said setting line 1 setting.sources)

-- the first source that names a moment for a line names this one; its number is one more than the sources before it
pub record IsFirstToName (setting : Setting) (line : List ℕ) (moment : Shown) : Type 0 where
  pub before : List Grammar
  pub source : Grammar
  pub after : List Grammar
  pub parts : setting.sources ≡ before ++ source ∷ after
  pub names : named setting.assumed source line ≡ Ok moment
  pub none_before : All (λ other. IsErr (named setting.assumed other line)) before
