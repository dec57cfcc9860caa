-- Texts of formats that are read in two ways: to numbers that name a moment, and into a record that names one.
use Rattle.std.specs.Prelude.{◌≡◌, ℕ, List, Option, Result, ℤ, IfSome}
use Rattle.std.specs.Result.{result_ok}
use Rattle.datetime_wall.specs.Wall.{Shown}
use Rattle.parsing_combinator.specs.Fault.{Fault}
use Rattle.parsing_record.specs.Meaning.{Meaning}
use Rattle.parsing_components.specs.declared.fields.Record.{Record}
use Rattle.parsing_record.specs.Record.{empty}
use Rattle.parsing_parsable.specs.Moment.{staged}

-- a record that holds no more than an offset's hour and its minute
abbrev pub holding : Option ℤ → Option ℤ → Record
holding hour minute = record empty { offset_hour = hour; offset_minute = minute }

-- both ways accept the bytes, with the same moment, or neither does; from a record without any field, or with an offset
abbrev pub AgreeOn : (List ℕ → Result Shown Fault) → Meaning → List ℕ → Type 0
AgreeOn direct m bytes = (hour minute : Option ℤ) → result_ok (direct bytes) ≡ result_ok (staged m (holding hour minute) bytes)

-- no defaults, or an assumed offset alone
abbrev pub HoldsAtMostAnOffset : Option Record → Type 0
HoldsAtMostAnOffset defaults = IfSome defaults (λ r. r ≡ holding r.offset_hour r.offset_minute)
