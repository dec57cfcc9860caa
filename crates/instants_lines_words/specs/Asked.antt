-- What is asked of the lines of a stream.
use Rattle.std.specs.Prelude.{ℕ, List, Option, option_map, ℤ}
use Rattle.instants_lines_words.specs.declared.asked.Asked.{Asked}
use Rattle.instants_lines_words.specs.declared.mode.Mode.{Mode}
use Rattle.instants_lines_words.specs.Part.{PartSaid, part_of}

-- a mode, the name of the zone on whose clock dates are that say no offset, the year of the first date, the time of day of dates without one in minutes, the part of each line in which dates are, if not the whole line, and a label
pub record Asking : Type 0 where
  pub mode : Mode
  pub zone : Option (List ℕ)
  pub year : Option ℤ
  pub time : Option ℕ
  pub part : Option PartSaid
  pub label : Option (List ℕ)

-- the same, without where names and the label lie in memory
abbrev pub asking_of : Asked → Asking
asking_of asked = record { mode = asked.mode; zone = option_map (λ text. text.now) asked.zone; year = asked.year; time = asked.time; part = option_map part_of asked.part; label = option_map (λ text. text.now) asked.label }
