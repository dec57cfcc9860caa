-- The moment that a text of RFC 2822 names, or the first fault that it has.
use Rattle.std.specs.Prelude.{ℕ, ◌==◌, List, Result, pos, false}
use Rattle.std.specs.Option.{unwrap_or}
use Rattle.calendar_count.specs.Month.{month_number}
use Rattle.datetime_wall.specs.Wall.{Shown, wall_clock}
use Rattle.parsing_combinator.specs.Fault.{Fault}
use Rattle.parsing_combinator.specs.Readings.{Reading, ◌>>=◌, ◌>>◌, resolved, end, value_read}
use Rattle.parsing_values.specs.Resolution.{date_of, leap_time_of, signed_offset_of}
use Rattle.parsing_values.specs.StandIn.{leap_checked}
use Rattle.parsing_rfc2822.specs.declared.parts.Rfc2822Parts.{Rfc2822Parts}
use Rattle.parsing_rfc2822.specs.Reading.{rfc2822}

-- the moment of the numbers: nothing after them; the ranges of the date, of the time and of the offset; the test of a leap second
--
-- The weekday has no effect.
unfoldable pub moment_of : Rfc2822Parts → Reading Shown
moment_of w = do
  end
  date ← resolved (date_of (pos w.year) (month_number w.month) w.day)
  time ← resolved (leap_time_of w.hour w.minute (unwrap_or w.second 0) 0)
  offset ← resolved (signed_offset_of w.zone.is_negative w.zone.hours w.zone.minutes)
  resolved (leap_checked (unwrap_or w.second 0 == 60) (record { wall = wall_clock date time; offset = offset }))

unfoldable pub moment : Reading Shown
moment = do
  w ← rfc2822 false
  moment_of w

unfoldable pub direct : List ℕ → Result Shown Fault
direct bytes = value_read (moment bytes)
