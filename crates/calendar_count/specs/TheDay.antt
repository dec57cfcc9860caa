-- The day that has stated properties.
use Rattle.std.specs.Prelude.{ℕ, zero, suc, ◌+◌, Bool, ◌&&◌, ◌==◌, Option, None, Some, if◌then◌else◌, ℤ}
use Rattle.std.specs.Ordering.{int_eq}
use Rattle.std.specs.Option.{option_or}
use Rattle.calendar_count.specs.Range.{last_count}
use Rattle.calendar_count.specs.Calendar.{day_at}

-- the first of the first n counts that passes a test
unfoldable pub first_passing : (ℕ → Bool) → ℕ → Option ℕ
first_passing p zero = None
first_passing p (suc n) = option_or (first_passing p n) (if p n then Some n else None)

-- the day of the calendar that passes a test, if one does
unfoldable pub the_day : (ℕ → Bool) → Option ℕ
the_day p = first_passing p (last_count + 1)

-- the day with this year, month and day of the month
abbrev pub is_day_of : ℤ → ℕ → ℕ → ℕ → Bool
is_day_of y m d n = int_eq (day_at n).year y && (((day_at n).month == m) && ((day_at n).day == d))
