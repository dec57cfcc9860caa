-- What the numbers of a text name: a date, a time of day, an offset. The first one out of range is refused.
use Rattle.std.specs.Prelude.{ℕ, Bool, true, ◌==◌, ◌&&◌, if◌then◌else◌, Result, Err, ℤ, pos, neg_ℤ}
use Rattle.std.specs.Option.{ok_or}
use Rattle.std.specs.Int.{is_in_range}
use Rattle.calendar_count.specs.Calendar.{is_year}
use Rattle.calendar_count.specs.TheDay.{the_day, is_day_of}
use Rattle.calendar_count.specs.ComponentRange.{out_of_range, out_of_conditional_range}
use Rattle.calendar_count.specs.declared.component_range.ComponentName.TheVariants.{Year, Month, Day}
use Rattle.calendar_count.specs.declared.component_range.ComponentRange.{ComponentRange}
use Rattle.calendar.specs.Time.{time_of}
use Rattle.calendar.specs.UtcOffset.{offset_of}

-- the date with this year, month and day, by its count
unfoldable pub date_of : ℤ → ℕ → ℕ → Result ℕ ComponentRange
date_of year month day =
    if is_year year
    then (if is_in_range 1 12 month then ok_or (the_day (is_day_of year month day)) (out_of_conditional_range Day) else Err (out_of_range Month))
    else Err (out_of_range Year)

-- the time of day with these parts; where it is permitted, a second 60 stands for the last nanosecond of its minute
unfoldable pub permitted_time_of : Bool → ℕ → ℕ → ℕ → ℕ → Result ℕ ComponentRange
permitted_time_of leap_second_is_permitted hour minute second nanosecond =
    if leap_second_is_permitted && (second == 60) then time_of hour minute 59 999_999_999 else time_of hour minute second nanosecond

-- the same, where it is permitted
abbrev pub leap_time_of : ℕ → ℕ → ℕ → ℕ → Result ℕ ComponentRange
leap_time_of = permitted_time_of true

-- the offset of hours and minutes under one sign, in seconds
unfoldable pub signed_offset_of : Bool → ℕ → ℕ → Result ℤ ComponentRange
signed_offset_of is_negative hours minutes =
    if is_negative then offset_of (neg_ℤ (pos hours)) (neg_ℤ (pos minutes)) (pos 0) else offset_of (pos hours) (pos minutes) (pos 0)
