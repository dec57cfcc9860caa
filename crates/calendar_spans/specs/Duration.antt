-- Durations, each its nanoseconds, below 0 where it leads back.
use Rattle.std.specs.Prelude.{ℕ, ◌+◌, ◌-◌, ◌*◌, ◌^◌, if◌then◌else◌, ℤ, pos, neg_ℤ, ◌≤ℤ◌, int_lt}

-- the nanoseconds of a microsecond, a millisecond, a second, a minute, an hour, a day and a week
abbrev pub micro_nanos : ℕ
micro_nanos = 1000

abbrev pub milli_nanos : ℕ
milli_nanos = 1_000_000

abbrev pub second_nanos : ℕ
second_nanos = 1_000_000_000

abbrev pub minute_nanos : ℕ
minute_nanos = 60_000_000_000

abbrev pub hour_nanos : ℕ
hour_nanos = 3_600_000_000_000

abbrev pub day_nanos : ℕ
day_nanos = 86_400_000_000_000

abbrev pub week_nanos : ℕ
week_nanos = 604_800_000_000_000

-- the whole seconds of a duration fit 64 bits
abbrev pub least_duration : ℤ
least_duration = neg_ℤ (pos (2 ^ 63 * second_nanos + 999_999_999))

abbrev pub greatest_duration : ℤ
greatest_duration = pos ((2 ^ 63 - 1) * second_nanos + 999_999_999)

abbrev pub IsDuration : ℤ → Type 0
IsDuration z = (least_duration ≤ℤ z) × (z ≤ℤ greatest_duration)

-- the duration nearest to so many nanoseconds
abbrev pub nearest_duration : ℤ → ℤ
nearest_duration z =
    if int_lt z least_duration then least_duration else (if int_lt greatest_duration z then greatest_duration else z)
