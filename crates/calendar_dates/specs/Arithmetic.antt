-- Days moved by durations.
use Rattle.std.specs.Prelude.{ℕ, if◌then◌else◌, ℤ, pos, ◌≤ℤ◌, int_lt, unsigned_abs, int_div}
use Rattle.calendar_count.specs.Range.{last_count}
use Rattle.calendar_spans.specs.Duration.{day_nanos}

-- the whole days of a duration, cut toward zero
abbrev pub days_of : ℤ → ℤ
days_of duration = int_div duration (pos day_nanos)

-- so many days from the first one lies a day of the crate
abbrev pub IsDayCount : ℤ → Type 0
IsDayCount z = (pos 0 ≤ℤ z) × (z ≤ℤ pos last_count)

-- the day nearest to where so many days from the first one lead
abbrev pub nearest_count : ℤ → ℕ
nearest_count z = if int_lt z (pos 0) then 0 else (if int_lt (pos last_count) z then last_count else unsigned_abs z)
