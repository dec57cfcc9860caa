-- A line's place on the timeline, and the answer that is written for it.
use Rattle.std.specs.Prelude.{◌≡◌, ℕ, List, [], ◌∷◌, Option, None, Some, Result, Ok, Err, if◌then◌else◌, ℤ}
use Rattle.std.specs.Option.{ok_or}
use Rattle.std.specs.Result.{result_ok}
use Rattle.datetime_wall.specs.Wall.{Shown, instant, shown_at}
use Rattle.parsing_combinator.specs.Fault.{Fault, insufficient}
use Rattle.instants_sources.specs.Grammar.{Grammar}
use Rattle.instants_sources.specs.Named.{named}
use Rattle.instants_answers.specs.Text.{moment_text, has_written_year}
use Rattle.instants_faults.specs.Refusal.{Refusal, year, refusal_of, refusal_said, refusal_text}
use Rattle.instants_faults.specs.declared.line_fault.LineFault.{LineFault}

-- what a timeline is made of: its sources in order, the offset in which moments are shown, and the one that is assumed for lines without one
pub record Setting : Type 0 where
  pub sources : List Grammar
  pub target : ℤ
  pub assumed : Option ℤ

-- the moment, or else that of the others, or else the fault
abbrev pub or_named : Result Shown Fault → Option Shown → Result Shown Fault
or_named (Ok moment) others = Ok moment
or_named (Err fault) others = ok_or others fault

-- what the first source that names a moment names, and else the first source's fault
unfoldable pub first_named : Option ℤ → List Grammar → List ℕ → Result Shown Fault
first_named assumed [] line = Err insufficient
first_named assumed (grammar ∷ others) line = or_named (named assumed grammar line) (result_ok (first_named assumed others line))

-- a moment whose year is written in four digits
abbrev pub in_written_years : Option Shown → Result Shown Refusal
in_written_years (Some moment) = if has_written_year moment then Ok moment else Err year
in_written_years None = Err year

-- the moment as it is shown at the target, or why it isn't
abbrev pub shown_or_refused : ℤ → Result Shown Fault → Result Shown Refusal
shown_or_refused target (Ok moment) = in_written_years (shown_at target (instant moment))
shown_or_refused target (Err fault) = Err (refusal_of fault)

-- a line's place: the moment that the first source with one names for the whole line, shown at the target
unfoldable pub place_of : Setting → List ℕ → Result Shown Refusal
place_of setting line = shown_or_refused setting.target (first_named setting.assumed setting.sources line)

-- a call answered a line's place
abbrev pub IsPlace : Result Shown LineFault → Result Shown Refusal → Type 0
IsPlace (Ok moment) place = place ≡ Ok moment
IsPlace (Err fault) place = place ≡ Err (refusal_said fault)

abbrev pub place_text : Result Shown Refusal → List ℕ
place_text (Ok moment) = moment_text moment
place_text (Err refusal) = refusal_text refusal

-- the answer to a line: its place as a date-time of fixed width, or why it has none
unfoldable pub answer_to : Setting → List ℕ → List ℕ
answer_to setting line = place_text (place_of setting line)
