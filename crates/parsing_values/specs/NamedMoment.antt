-- The moments that the parts of a text name. The first refusal counts: the date's, the time's, the offset's, the leap second's.
use Rattle.std.specs.Prelude.{ℕ, ◌==◌, ◌&&◌, Bool, nat_lt, Option, None, Some, Result, Ok, Err, if◌then◌else◌, ℤ, pos, ◌+ℤ◌}
use Rattle.std.specs.Option.{unwrap_or}
use Rattle.calendar_count.specs.ComponentRange.{out_of_range}
use Rattle.calendar_count.specs.declared.component_range.ComponentName.TheVariants.{Year, Nanosecond, Timestamp}
use Rattle.calendar_count.specs.declared.component_range.ComponentRange.{ComponentRange}
use Rattle.datetime_wall.specs.Wall.{Shown, instant, is_wall_clock, wall_clock, second_nanos, cut_to}
use Rattle.parsing_combinator.specs.Fault.{Fault, insufficient}
use Rattle.parsing_values.specs.StandIn.{leap_checked}
use Rattle.parsing_values.specs.declared.date_parts.DateParts.{DateParts}
use Rattle.parsing_values.specs.NamedDate.{named_date, in_range}
use Rattle.parsing_values.specs.declared.parts.TimeParts.{TimeParts}
use Rattle.parsing_values.specs.declared.parts.OffsetParts.{OffsetParts}
use Rattle.parsing_values.specs.declared.parts.MomentParts.{MomentParts}
use Rattle.parsing_values.specs.NamedTime.{named_time, named_offset}

-- one answer after another, up to the first refusal
infixl 10 ◌>>=◌
abbrev pub ◌>>=◌ : {A B : Type 0} → Result A Fault → (A → Result B Fault) → Result B Fault
Ok x >>= f = f x
Err e >>= f = Err e

-- the wall clock of the date and the time of day
unfoldable pub named_wall : Bool → DateParts → TimeParts → Result ℤ Fault
named_wall leap_second_is_permitted date_parts time_parts = do
  date ← named_date date_parts
  time ← named_time leap_second_is_permitted time_parts
  Ok (wall_clock date time)

-- whether the moment stands for a leap second
abbrev pub is_leap : MomentParts → Bool
is_leap p = p.leap_second_is_permitted && (unwrap_or p.time.second 0 == 60)

-- an instant that the calendar has a day for in UTC
abbrev pub in_calendar : ℤ → Result ℤ ComponentRange
in_calendar i = if is_wall_clock i then Ok i else Err (out_of_range Year)

-- the moment by date, time of day and offset
unfoldable pub dated_moment : MomentParts → OffsetParts → Result Shown Fault
dated_moment p o = do
  wall ← named_wall p.leap_second_is_permitted p.date p.time
  offset ← named_offset o
  in_range (leap_checked (is_leap p) (record { wall = wall; offset = offset }))

-- with no hour of an offset, UTC
unfoldable pub offset_or_utc : OffsetParts → Option ℤ → Result ℤ Fault
offset_or_utc o None = Ok (pos 0)
offset_or_utc o (Some hour) = named_offset o

-- the same as an instant, which the calendar has to have a day for before a leap second is tested
unfoldable pub dated_utc : MomentParts → OffsetParts → Result ℤ Fault
dated_utc p o = do
  wall ← named_wall p.leap_second_is_permitted p.date p.time
  offset ← offset_or_utc o o.hour
  i ← in_range (in_calendar (instant (record { wall = wall; offset = offset })))
  checked ← in_range (leap_checked (is_leap p) (record { wall = wall; offset = offset }))
  Ok i

-- the same, with one fault
abbrev pub or_insufficient : {A : Type 0} → Result A Fault → Result A Fault
or_insufficient (Ok x) = Ok x
or_insufficient (Err e) = Err insufficient

unfoldable pub dated_timestamp : MomentParts → OffsetParts → Result ℤ Fault
dated_timestamp p o = or_insufficient (do
  m ← dated_moment p o
  in_range (in_calendar (instant m)))

-- the instant of Unix nanoseconds
unfoldable pub unix_instant : ℤ → Result ℤ ComponentRange
unix_instant nanoseconds = if is_wall_clock nanoseconds then Ok nanoseconds else Err (out_of_range Timestamp)

-- the same, a subsecond that is there replacing the nanosecond of the second
unfoldable pub unix_subsecond : ℤ → Option ℕ → Result ℤ ComponentRange
unix_subsecond nanoseconds None = unix_instant nanoseconds
unix_subsecond nanoseconds (Some subsecond) =
    if is_wall_clock nanoseconds
    then (if nat_lt 999_999_999 subsecond then Err (out_of_range Nanosecond) else Ok (cut_to second_nanos nanoseconds +ℤ pos subsecond))
    else Err (out_of_range Timestamp)

-- Unix nanoseconds, where they are there, go before all other parts
abbrev pub moment_by : Option ℤ → MomentParts → OffsetParts → Result Shown Fault
moment_by None p o = dated_moment p o
moment_by (Some nanoseconds) p o = do
  i ← in_range (unix_subsecond nanoseconds p.time.subsecond)
  Ok (record { wall = i; offset = pos 0 })

unfoldable pub named_moment : MomentParts → OffsetParts → Result Shown Fault
named_moment p o = moment_by p.unix_nanoseconds p o

abbrev pub utc_by : Option ℤ → MomentParts → OffsetParts → Result ℤ Fault
utc_by None p o = dated_utc p o
utc_by (Some nanoseconds) p o = in_range (unix_subsecond nanoseconds p.time.subsecond)

unfoldable pub named_utc : MomentParts → OffsetParts → Result ℤ Fault
named_utc p o = utc_by p.unix_nanoseconds p o

-- a timestamp takes no subsecond
abbrev pub timestamp_by : Option ℤ → MomentParts → OffsetParts → Result ℤ Fault
timestamp_by None p o = dated_timestamp p o
timestamp_by (Some nanoseconds) p o = in_range (unix_instant nanoseconds)

unfoldable pub named_timestamp : MomentParts → OffsetParts → Result ℤ Fault
named_timestamp p o = timestamp_by p.unix_nanoseconds p o
