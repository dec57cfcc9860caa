-- asctime's date, the oldest of the three that HTTP reads: RFC 9110, section 5.6.7. It is in UTC.
use Rattle.std.specs.Prelude.{ℕ, List, [], ◌∷◌, Result, codes, pos, true}
use Rattle.base.specs.Bytes.{space, colon}
use Rattle.calendar.specs.Time.{time_of}
use Rattle.calendar_count.specs.Month.{month_number}
use Rattle.calendar_count.specs.declared.month.Month.{Month}
use Rattle.datetime_wall.specs.Wall.{Shown, wall_clock}
use Rattle.parsing_combinator.specs.Fault.{Fault, literal, component}
use Rattle.parsing_combinator.specs.Names.{named, short_months, short_weekdays}
use Rattle.parsing_combinator.specs.Pieces.{byte, digits}
use Rattle.parsing_combinator.specs.Readings.{Reading, ◌or◌, ◌>>=◌, ◌>>◌, end, give, resolved, value_read}
use Rattle.parsing_combinator.specs.Shape.{taken, spaced_between}
use Rattle.parsing_layout.specs.declared.parts.Field.TheVariants as field
use Rattle.parsing_layout.specs.declared.parts.Names.TheVariants as names
use Rattle.parsing_layout.specs.declared.parts.Part.{Part}
use Rattle.parsing_layout.specs.declared.parts.Part.TheVariants.{Byte, Name, Spaced, Digits}
use Rattle.parsing_values.specs.Resolution.{date_of}

-- `Sun Nov  6 08:49:37 1994`: the year, the month, the day, and the time of day; what the weekday is does not count
unfoldable pub numbers : Reading (ℕ × Month × ℕ × ℕ × ℕ × ℕ)
numbers = do
  taken (named true short_weekdays) or component (codes "weekday")
  byte space or literal
  month ← taken (named true short_months) or component (codes "month")
  byte space or literal
  day ← taken (spaced_between 2 2) or component (codes "day")
  byte space or literal
  hour ← digits 2 or component (codes "hour")
  byte colon or literal
  minute ← digits 2 or component (codes "minute")
  byte colon or literal
  second ← digits 2 or component (codes "second")
  byte space or literal
  year ← digits 4 or component (codes "year")
  give (year, month, day, hour, minute, second)

-- the moment of these numbers, after which nothing stands
unfoldable pub moment_of : ℕ × Month × ℕ × ℕ × ℕ × ℕ → Reading Shown
moment_of n = do
  end
  date ← resolved (date_of (pos n.0) (month_number n.1) n.2)
  time ← resolved (time_of n.3 n.4 n.5 0)
  give (record { wall = wall_clock date time; offset = pos 0 })

unfoldable pub asctime : List ℕ → Result Shown Fault
asctime text = value_read ((numbers >>= moment_of) text)

-- the same as parts
abbrev pub asctime_parts : List Part
asctime_parts =
    Name names.ShortWeekday true ∷ Byte space ∷ Name names.ShortMonth true ∷ Byte space ∷ Spaced field.Day ∷ Byte space ∷
    Digits field.Hour 2 ∷ Byte colon ∷ Digits field.Minute 2 ∷ Byte colon ∷ Digits field.Second 2 ∷ Byte space ∷ Digits field.Year 4 ∷ []
