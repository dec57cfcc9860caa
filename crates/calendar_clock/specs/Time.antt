-- Times of day, each the nanoseconds since the day began.
use Rattle.std.specs.Prelude.{ℕ, ◌+◌, ◌*◌, ◌/◌, ◌%◌, nat_lt, if◌then◌else◌, Result, Ok, Err, List, ◌∷◌, ◌++◌, ℤ, pos, unsigned_abs}
use Rattle.std.specs.Int.{int_rem_euclid}
use Rattle.std.specs.Fmt.{decimal}
use Rattle.base.specs.Bytes.{dot, colon}
use Rattle.calendar_count.specs.declared.component_range.ComponentName.TheVariants.{Hour, Minute, Second, Millisecond, Microsecond, Nanosecond}
use Rattle.calendar_count.specs.declared.component_range.ComponentRange.{ComponentRange}
use Rattle.calendar_count.specs.ComponentRange.{out_of_range}
use Rattle.calendar_count.specs.Digits.{two_digits, nine_digits, without_zeros}
-- the nanoseconds of each unit
pub use Rattle.calendar_spans.specs.Duration.{micro_nanos, milli_nanos, second_nanos, minute_nanos, hour_nanos, day_nanos}

-- the parts of a time of day
abbrev pub hour_at : ℕ → ℕ
hour_at n = n / 3_600_000_000_000

abbrev pub minute_at : ℕ → ℕ
minute_at n = n / 60_000_000_000 % 60

abbrev pub second_at : ℕ → ℕ
second_at n = n / second_nanos % 60

abbrev pub nanosecond_at : ℕ → ℕ
nanosecond_at n = n % second_nanos

-- the time of day with these parts: the coarsest one that is out of range is refused
unfoldable pub time_of : ℕ → ℕ → ℕ → ℕ → Result ℕ ComponentRange
time_of hour minute second nanosecond =
    if nat_lt 23 hour then Err (out_of_range Hour)
    else (if nat_lt 59 minute then Err (out_of_range Minute)
    else (if nat_lt 59 second then Err (out_of_range Second)
    else (if nat_lt 999_999_999 nanosecond then Err (out_of_range Nanosecond)
    else Ok ((hour * 3600 + minute * 60 + second) * second_nanos + nanosecond))))

-- `7:05:00.0`, `23:20:50.52`
abbrev pub time_text : ℕ → List ℕ
time_text n = decimal (hour_at n) ++ colon ∷ two_digits (minute_at n) ++ colon ∷ two_digits (second_at n) ++ dot ∷ without_zeros (nine_digits (nanosecond_at n))

abbrev pub millisecond_at : ℕ → ℕ
millisecond_at n = n % second_nanos / milli_nanos

abbrev pub microsecond_at : ℕ → ℕ
microsecond_at n = n % second_nanos / micro_nanos

-- the same as `time_of`, of so many milliseconds, or microseconds, in place of nanoseconds
unfoldable pub time_of_milli : ℕ → ℕ → ℕ → ℕ → Result ℕ ComponentRange
time_of_milli hour minute second millisecond =
    if nat_lt 23 hour then Err (out_of_range Hour)
    else (if nat_lt 59 minute then Err (out_of_range Minute)
    else (if nat_lt 59 second then Err (out_of_range Second)
    else (if nat_lt 999 millisecond then Err (out_of_range Millisecond)
    else Ok ((hour * 3600 + minute * 60 + second) * second_nanos + millisecond * milli_nanos))))

unfoldable pub time_of_micro : ℕ → ℕ → ℕ → ℕ → Result ℕ ComponentRange
time_of_micro hour minute second microsecond =
    if nat_lt 23 hour then Err (out_of_range Hour)
    else (if nat_lt 59 minute then Err (out_of_range Minute)
    else (if nat_lt 59 second then Err (out_of_range Second)
    else (if nat_lt 999_999 microsecond then Err (out_of_range Microsecond)
    else Ok ((hour * 3600 + minute * 60 + second) * second_nanos + microsecond * micro_nanos))))

-- the greatest whole number of units that is not after a time
abbrev pub cut_to : ℕ → ℕ → ℕ
cut_to unit n = n / unit * unit

-- the time of day that so many nanoseconds lead to, round the clock
abbrev pub on_clock : ℤ → ℕ
on_clock z = unsigned_abs (int_rem_euclid z (pos day_nanos))
