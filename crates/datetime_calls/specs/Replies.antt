-- What a moment answers, by its nanoseconds since 1970 began in UTC, and the moment that the next call starts from.
use Rattle.std.specs.Prelude.{ℕ, ◌==◌, if◌then◌else◌, Option, None, Some, List, [], ◌∷◌, ℤ, ◌+ℤ◌, ◌-ℤ◌}
use Rattle.calendar_count.specs.declared.month.Month.{Month}
use Rattle.calendar_count.specs.declared.month.Month.TheVariants.{January, February, March, April, May, June, July, August, September, October, November, December}
use Rattle.calendar_count.specs.declared.weekday.Weekday.{Weekday}
use Rattle.calendar_count.specs.declared.weekday.Weekday.TheVariants.{Monday, Tuesday, Wednesday, Thursday, Friday, Saturday, Sunday}
use Rattle.calendar.specs.Calendar.{day_at, ordinal_at, weekday_at, iso_year_at, iso_week_at}
use Rattle.calendar.specs.Time.{hour_at, minute_at, second_at, nanosecond_at}
use Rattle.datetime_wall.specs.Wall.{wall_clock, day_of, nanosecond_of, is_wall_clock, shown_at}
use Rattle.datetime_calls.specs.declared.calls.MomentCall.{MomentCall}
use Rattle.datetime_calls.specs.declared.calls.MomentCall.TheVariants as call
use Rattle.datetime_calls.specs.declared.calls.MomentReply.{MomentReply}
use Rattle.datetime_calls.specs.declared.calls.MomentReply.TheVariants as reply

-- the month with a number from 1 to 12
unfoldable pub month_of : ℕ → Month
month_of n =
    if n == 1 then January else (if n == 2 then February else (if n == 3 then March else (if n == 4 then April
    else (if n == 5 then May else (if n == 6 then June else (if n == 7 then July else (if n == 8 then August
    else (if n == 9 then September else (if n == 10 then October else (if n == 11 then November else December))))))))))

-- the day of the week so many days after Monday
unfoldable pub weekday_of : ℕ → Weekday
weekday_of n =
    if n == 0 then Monday else (if n == 1 then Tuesday else (if n == 2 then Wednesday else (if n == 3 then Thursday
    else (if n == 4 then Friday else (if n == 5 then Saturday else Sunday)))))

-- an instant, where the calendar has its day
abbrev pub in_range : ℤ → Option ℤ
in_range i = if is_wall_clock i then Some i else None

unfoldable pub reply_to : ℤ → MomentCall → MomentReply
reply_to i call.InstantNanos = reply.InstantNanos i
reply_to i call.ToCalendarDate = reply.ToCalendarDate (day_at (day_of i)).year (month_of (day_at (day_of i)).month) (day_at (day_of i)).day
reply_to i call.ToOrdinalDate = reply.ToOrdinalDate (day_at (day_of i)).year (ordinal_at (day_of i))
reply_to i call.ToIsoWeekDate = reply.ToIsoWeekDate (iso_year_at (day_of i)) (iso_week_at (day_of i)) (weekday_of (weekday_at (day_of i)))
reply_to i call.Weekday = reply.Weekday (weekday_of (weekday_at (day_of i)))
reply_to i call.AsHmsNano = reply.AsHmsNano (hour_at (nanosecond_of i)) (minute_at (nanosecond_of i)) (second_at (nanosecond_of i)) (nanosecond_at (nanosecond_of i))
reply_to i (call.CheckedAdd duration) = reply.CheckedAdd (in_range (i +ℤ duration))
reply_to i (call.CheckedSub duration) = reply.CheckedSub (in_range (i -ℤ duration))
reply_to i (call.ReplaceDate date) = reply.ReplaceDate (wall_clock date (nanosecond_of i))
reply_to i (call.ReplaceTime time) = reply.ReplaceTime (wall_clock (day_of i) time)
reply_to i (call.CheckedToOffset offset) = reply.CheckedToOffset (shown_at offset i)

-- a new moment, where there is one, and else the one before it
unfoldable pub next_start : ℤ → MomentCall → ℤ
next_start i (call.CheckedAdd duration) = if is_wall_clock (i +ℤ duration) then i +ℤ duration else i
next_start i (call.CheckedSub duration) = if is_wall_clock (i -ℤ duration) then i -ℤ duration else i
next_start i (call.ReplaceDate date) = wall_clock date (nanosecond_of i)
next_start i (call.ReplaceTime time) = wall_clock (day_of i) time
next_start i _ = i

-- the replies to calls in turn
unfoldable pub replies : ℤ → List MomentCall → List MomentReply
replies i [] = []
replies i (c ∷ calls) = reply_to i c ∷ replies (next_start i c) calls

-- the moment after them
unfoldable pub last_start : ℤ → List MomentCall → ℤ
last_start i [] = i
last_start i (c ∷ calls) = last_start (next_start i c) calls
