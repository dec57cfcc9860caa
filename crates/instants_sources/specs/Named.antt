-- The moment that a source names for a line.
use Rattle.std.specs.Prelude.{◌≡◌, ℕ, List, Option, None, Some, Result, Ok, ℤ, pos, int_div, int_rem}
use Rattle.std.specs.Result.{result_ok}
use Rattle.datetime_wall.specs.Wall.{Shown}
use Rattle.parsing_combinator.specs.Fault.{Fault}
use Rattle.parsing_components.specs.declared.fields.Record.{Record}
use Rattle.parsing_record.specs.Whole.{whole, names, moment_named, by_roads}
use Rattle.parsing_iso8601.specs.Moment.{IsOfOffset}
use Rattle.parsing_rfc2822.specs.Direct as rfc2822
use Rattle.parsing_rfc3339.specs.Direct as rfc3339
use Rattle.parsing_parsable.specs.Staged.{reads_rfc2822, reads_rfc3339}
use Rattle.parsing_parsable.specs.TwoRoads.{holding}
use Rattle.instants_sources.specs.Grammar.{Grammar, Described, Rfc2822, Rfc3339, Iso8601}
use Rattle.instants_sources.specs.Reading.{reading_of}

-- what a reading begins with where an offset is assumed: its hour and its minute
abbrev pub defaults_of : Option ℤ → Option Record
defaults_of None = None
defaults_of (Some offset) = Some (holding (Some (int_div offset (pos 3600))) (Some (int_rem (int_div offset (pos 60)) (pos 60))))

-- what a source names for a whole line with an offset assumed or none: a moment, or its fault
abbrev pub named : Option ℤ → Grammar → List ℕ → Result Shown Fault
named assumed Rfc2822 line = by_roads rfc2822.direct reads_rfc2822 (defaults_of assumed) line
named assumed Rfc3339 line = by_roads rfc3339.direct reads_rfc3339 (defaults_of assumed) line
named assumed grammar line = names moment_named (whole (reading_of grammar) (defaults_of assumed) line)

-- the source names this moment for the line, whatever offset is assumed
abbrev pub IsNamedBy : Grammar → List ℕ → Shown → Type 0
IsNamedBy grammar line moment = (assumed : Option ℤ) → named assumed grammar line ≡ Ok moment

-- a well-known format reads this moment from the line by itself, without a record
abbrev pub IsDirect : Grammar → List ℕ → Shown → Type 0
IsDirect (Described written) line moment = ⊥
IsDirect Rfc2822 line moment = rfc2822.direct line ≡ Ok moment
IsDirect Rfc3339 line moment = rfc3339.direct line ≡ Ok moment
IsDirect Iso8601 line moment = IsOfOffset line moment

-- the source names no moment for the line, whatever offset is assumed
abbrev pub NamesNothing : Grammar → List ℕ → Type 0
NamesNothing grammar line = (assumed : Option ℤ) → result_ok (named assumed grammar line) ≡ None
