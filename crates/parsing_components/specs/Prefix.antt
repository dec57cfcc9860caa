-- What a reading begins with where an offset is assumed, and what it names of a prefix of a line.
use Rattle.std.specs.Prelude.{◌≡◌, ℕ, List, Option, IfSome, Ok, ℤ, pos, int_div, int_rem, option_map}
use Rattle.datetime_wall.specs.Wall.{Shown}
use Rattle.parsing_components.specs.Meaning.{Meaning}
use Rattle.parsing_components.specs.declared.fields.Record.{Record}
use Rattle.parsing_components.specs.Record.{empty}
use Rattle.parsing_components.specs.Whole.{whole, names, moment_named, starting}
use Rattle.parsing_values.specs.Moment.{moment_of}
use Rattle.parsing_values.specs.declared.fields.Fields.{Fields}

-- the record that a reading begins with where an offset is assumed: its hour and its minute
abbrev pub beginning : Option ℤ → Record
beginning assumed = record empty { offset_hour = option_map (λ o. int_div o (pos 3600)) assumed; offset_minute = option_map (λ o. int_rem (int_div o (pos 60)) (pos 60)) assumed }

-- the items read a prefix of the line from a record, leave this rest, and the record that they set names this moment
pub record NamesPrefix (m : Meaning) (r : Record) (line rest : List ℕ) (moment : Shown) : Type 0 where
  pub set : Record
  pub reads : m r line ≡ Ok (set, rest)
  pub names : moment_named set ≡ Ok moment

-- fields that are found are those of the moment that each such meaning names of the whole line, with an offset assumed or none
abbrev pub NamesWhole : (Meaning → Type 0) → List ℕ → Option ℤ → Option Fields → Type 0
NamesWhole IsRead line assumed found = (m : Meaning) (defaults : Option Record) → IsRead m → starting defaults ≡ beginning assumed → IfSome found (λ f. names moment_named (whole m defaults line) ≡ Ok (moment_of f))
