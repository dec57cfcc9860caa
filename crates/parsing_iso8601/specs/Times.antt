-- A time of day, as far as it is written, and the kind that it hands on (ISO 8601-1:2019, 5.3).
use Rattle.std.specs.Prelude.{ℕ, ◌/◌, ◌%◌, Bool, List, Option, Some, None, nat_le, nat_lt, not}
use Rattle.base.specs.Bytes.{colon}
use Rattle.parsing_combinator.specs.Pieces.{Piece, byte}
use Rattle.parsing_iso8601.specs.declared.kind.Kind.{Kind}
use Rattle.parsing_iso8601.specs.declared.written.WrittenTime.{WrittenTime}
use Rattle.parsing_iso8601.specs.AllOrNothing.{◌>>=◌, ◌>>◌, give, refuse, require, if_there}
use Rattle.parsing_iso8601.specs.Designators.{time_designator}
use Rattle.parsing_iso8601.specs.Fractions.{part_of, rounded_part_of}
use Rattle.parsing_iso8601.specs.Kinds.{by_kind, kind_of_time, settled}
use Rattle.parsing_iso8601.specs.Numbers.{number}

abbrev pub time_of : ℕ → ℕ → ℕ → ℕ → WrittenTime
time_of hour minute second subsecond = record { hour = hour; minute = minute; second = second; subsecond = subsecond }

-- an hour and nanoseconds after it
unfoldable pub after_hour : ℕ → ℕ → WrittenTime
after_hour hour nanos = time_of hour (nanos / 60_000_000_000) (nanos / 1_000_000_000 % 60) (nanos % 1_000_000_000)

-- a minute and nanoseconds after it
unfoldable pub after_minute : ℕ → ℕ → ℕ → WrittenTime
after_minute hour minute nanos = time_of hour minute (nanos / 1_000_000_000) (nanos % 1_000_000_000)

abbrev pub subsecond_of : Option (List ℕ) → ℕ
subsecond_of None = 0
subsecond_of (Some ds) = rounded_part_of 1_000_000_000 ds

-- a second was read; a fraction that rounds to a whole second is refused
unfoldable pub to_second : ℕ → ℕ → ℕ × Option (List ℕ) → Piece WrittenTime
to_second hour minute second = do
  require (nat_le second.0 60)
  require (nat_lt (subsecond_of second.1) 1_000_000_000)
  give (time_of hour minute second.0 (subsecond_of second.1))

-- after a whole minute of the basic kind: a second, if there is one
unfoldable pub basic_seconds : ℕ → ℕ → Piece WrittenTime
basic_seconds hour minute = if_there number (λ second. to_second hour minute second) (give (time_of hour minute 0 0))

unfoldable pub due_second : ℕ → ℕ → Piece WrittenTime
due_second hour minute = do
  second ← number
  to_second hour minute second

-- of the extended kind: after a colon the second is due
unfoldable pub extended_seconds : ℕ → ℕ → Piece WrittenTime
extended_seconds hour minute = if_there (byte colon) (λ _. due_second hour minute) (give (time_of hour minute 0 0))

unfoldable pub seconds : Kind → ℕ → ℕ → Piece WrittenTime
seconds kind hour minute = by_kind kind (basic_seconds hour minute) (basic_seconds hour minute) (extended_seconds hour minute)

-- a number's fraction ends the time; without one it goes on
abbrev pub fraction_or : {A : Type 0} → Option (List ℕ) → (List ℕ → Piece A) → Piece A → Piece A
fraction_or None ends on = on
fraction_or (Some ds) ends on = ends ds

-- a minute was read
unfoldable pub from_minute : Kind → ℕ → ℕ × Option (List ℕ) → Piece (WrittenTime × Kind)
from_minute kind hour minute = do
  require (nat_le minute.0 59)
  time ← fraction_or minute.1 (λ ds. give (after_minute hour minute.0 (part_of 60_000_000_000 ds))) (seconds kind hour minute.0)
  give (time, settled kind)

-- minutes are due in the extended kind alone
unfoldable pub minutes : Kind → ℕ → Piece (WrittenTime × Kind)
minutes kind hour =
    if_there number (λ minute. from_minute kind hour minute)
    (by_kind kind (give (time_of hour 0 0 0, kind)) (give (time_of hour 0 0 0, kind)) refuse)

-- after a whole hour
unfoldable pub from_hour : Kind → ℕ → Piece (WrittenTime × Kind)
from_hour kind hour = do
  now ← kind_of_time kind
  minutes now hour

-- `T`, which has to be there after a date
unfoldable pub designator : Bool → Piece (Unit {0})
designator after_date = if_there (byte time_designator) (λ _. give tt) (require (not after_date))

unfoldable pub time : Kind → Bool → Piece (WrittenTime × Kind)
time kind after_date = do
  designator after_date
  hour ← number
  require (nat_le hour.0 23)
  fraction_or hour.1 (λ ds. give (after_hour hour.0 (part_of 3_600_000_000_000 ds), kind)) (from_hour kind hour.0)
