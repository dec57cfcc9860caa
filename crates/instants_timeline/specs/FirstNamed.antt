-- What is found of a line before all of its answer is known.
use Rattle.std.specs.Prelude.{◌≡◌, ℕ, List, ◌∷◌, drop, Option, Some, Ok, Err}
use Rattle.std.specs.Result.{result_ok}
use Rattle.datetime_wall.specs.Wall.{Shown}
use Rattle.parsing_combinator.specs.Fault.{Fault}
use Rattle.instants_answers.specs.Line.{HoldsLine}
use Rattle.instants_sources.specs.Grammar.{Grammar}
use Rattle.instants_sources.specs.Named.{named}
use Rattle.instants_sources.specs.Planned.{IsPlanned}
use Rattle.parsing_plan.specs.declared.plan.Plan.{Plan}
use Rattle.instants_timeline.specs.Place.{Setting, first_named, place_text, shown_or_refused}

-- what the sources from a place on name is what all of them name
abbrev pub NamesFrom : Setting → List ℕ → ℕ → Type 0
NamesFrom setting line place =
    result_ok (first_named setting.assumed (drop place setting.sources) line) ≡ result_ok (first_named setting.assumed setting.sources line)

-- a moment is named, and a room holds the line of the answer for it
pub record HoldsAnswer (setting : Setting) (named : Option Shown) (len : ℕ) (room : List ℕ) : Type 0 where
  pub moment : Shown
  pub is : named ≡ Some moment
  pub line : HoldsLine (place_text (shown_or_refused setting.target (Ok moment))) len room

-- the first source reads by a grammar
abbrev pub IsLedBy : Setting → Grammar → Type 0
IsLedBy setting grammar = setting.sources ≡ grammar ∷ drop 1 setting.sources

-- the first source finds this fault in a line
pub record IsFirstFault (setting : Setting) (line : List ℕ) (fault : Fault) : Type 0 where
  pub grammar : Grammar
  pub first : IsLedBy setting grammar
  pub refused : named setting.assumed grammar line ≡ Err fault

-- the first source is a description that reads as a plan says
pub record IsLedByPlan (setting : Setting) (plan : Plan) : Type 0 where
  pub grammar : Grammar
  pub first : IsLedBy setting grammar
  pub planned : IsPlanned grammar plan
