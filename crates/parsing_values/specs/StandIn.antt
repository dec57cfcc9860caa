-- The moment that stands for a leap second: the last nanosecond of the last day of a month in UTC.
use Rattle.std.specs.Prelude.{◌-◌, ◌==◌, ◌&&◌, Bool, not, if◌then◌else◌, Result, Ok, Err}
use Rattle.calendar.specs.ComponentRange.{out_of_conditional_range}
use Rattle.calendar_count.specs.declared.component_range.ComponentName.TheVariants.{Second}
use Rattle.calendar_count.specs.declared.component_range.ComponentRange.{ComponentRange}
use Rattle.datetime_wall.specs.Wall.{Shown, instant, is_wall_clock, day_of, nanosecond_of, day_nanos}
use Rattle.parsing_values.specs.MonthEnd.{ends_month}

-- whether a moment is one, and the calendar has its day in UTC
unfoldable pub is_stand_in : Shown → Bool
is_stand_in m =
    is_wall_clock (instant m) && ((nanosecond_of (instant m) == day_nanos - 1) && ends_month (day_of (instant m)))

-- a moment that was read: one with a second 60 has to be a stand-in
unfoldable pub leap_checked : Bool → Shown → Result Shown ComponentRange
leap_checked is_leap m =
    if is_leap && not (is_stand_in m) then Err (out_of_conditional_range Second) else Ok m
