-- The moment that a text of RFC 3339 names, or the first fault that it has.
use Rattle.std.specs.Prelude.{ℕ, ◌==◌, List, Result, pos, false}
use Rattle.std.specs.Option.{unwrap_or}
use Rattle.datetime_wall.specs.Wall.{Shown, wall_clock}
use Rattle.parsing_combinator.specs.Fault.{Fault}
use Rattle.parsing_combinator.specs.Readings.{Reading, ◌>>=◌, ◌>>◌, resolved, end, value_read}
use Rattle.parsing_values.specs.Resolution.{date_of, leap_time_of, signed_offset_of}
use Rattle.parsing_values.specs.StandIn.{leap_checked}
use Rattle.parsing_rfc3339.specs.declared.parts.Rfc3339Parts.{Rfc3339Parts}
use Rattle.parsing_rfc3339.specs.Reading.{rfc3339}

-- the moment of the numbers: the range of the offset; nothing after them; the ranges of the date and of the time; the test of a leap second
unfoldable pub moment_of : Rfc3339Parts → Reading Shown
moment_of w = do
  offset ← resolved (signed_offset_of w.zone.is_negative w.zone.hours w.zone.minutes)
  end
  date ← resolved (date_of (pos w.year) w.month w.day)
  time ← resolved (leap_time_of w.hour w.minute w.second (unwrap_or w.subsecond 0))
  resolved (leap_checked (w.second == 60) (record { wall = wall_clock date time; offset = offset }))

unfoldable pub moment : Reading Shown
moment = do
  w ← rfc3339 false
  moment_of w

unfoldable pub direct : List ℕ → Result Shown Fault
direct bytes = value_read (moment bytes)
