-- The law of the three kinds of instants.
use Rattle.std.specs.Prelude.{◌≡◌, ℕ, None, Result, Ok, Err, ℤ}
use Rattle.datetime_wall.specs.Wall.{Shown, instant, IsWallClock, wall_clock}
use Rattle.parsing_combinator.specs.Fault.{Fault, insufficient}
use Rattle.parsing_values.specs.NamedDate.{named_date}
use Rattle.parsing_values.specs.declared.parts.MomentParts.{MomentParts}
use Rattle.parsing_values.specs.declared.parts.OffsetParts.{OffsetParts}
use Rattle.parsing_values.specs.NamedTime.{named_time, named_offset}

-- a date, a time of day and an offset are named, nothing says the Unix nanoseconds, and the calendar has the day in UTC
pub record IsWhole (p : MomentParts) (o : OffsetParts) (date time : ℕ) (offset : ℤ) : Type 0 where
  pub unix_is : p.unix_nanoseconds ≡ None
  pub date_is : named_date p.date ≡ Ok date
  pub time_is : named_time p.leap_second_is_permitted p.time ≡ Ok time
  pub offset_is : named_offset o ≡ Ok offset
  pub in_utc : IsWallClock (instant (record { wall = wall_clock date time; offset = offset }))

-- three answers accept with one instant, or all refuse
abbrev pub IsOneInstant : Result Shown Fault → Result ℤ Fault → Result ℤ Fault → Type 0
IsOneInstant (Ok m) utc timestamp = (utc ≡ Ok (instant m)) × (timestamp ≡ Ok (instant m))
IsOneInstant (Err e) utc timestamp = (utc ≡ Err e) × (timestamp ≡ Err insufficient)
