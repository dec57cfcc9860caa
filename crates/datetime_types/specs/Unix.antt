-- What a `Timestamp` keeps: the whole seconds since 1970 began in UTC, rounded down, and the nanoseconds after them.
use Rattle.std.specs.Prelude.{ℕ, Bool, ◌&&◌, ◌+◌, ◌-◌, ◌*◌, ℤ, pos, neg_ℤ, ◌+ℤ◌, ◌*ℤ◌, int_le, int_lt}
use Rattle.std.specs.Prelude.{◌<◌, unsigned_abs}
use Rattle.std.specs.Int.{int_div_euclid, int_rem_euclid}
use Rattle.std.proofs.Common.{◌≡◌, arith}
use Rattle.calendar_count.proofs.lemmas.Signed.{signed}
use Rattle.calendar.specs.Range.{last_count, unix_epoch}
use Rattle.datetime_wall.specs.Wall.{second_nanos}
use Rattle.datetime_wall.specs.Seconds.{day_seconds}

unfoldable pub unix_nanos : ℤ → ℕ → ℤ
unix_nanos seconds nanosecond = seconds *ℤ pos second_nanos +ℤ pos nanosecond

-- the calendar has the second
abbrev pub is_unix_second : ℤ → Bool
is_unix_second seconds =
    int_le (neg_ℤ (pos (unix_epoch * day_seconds))) seconds && int_lt seconds (pos ((last_count + 1 - unix_epoch) * day_seconds))

-- the instant gives the parts back
pub seconds_back : (seconds : ℤ) (nanosecond : ℕ) → nanosecond < second_nanos → int_div_euclid (unix_nanos seconds nanosecond) (pos second_nanos) ≡ seconds
unfolding unix_nanos
seconds_back seconds nanosecond h = omega (arith, signed)

pub nanosecond_back : (seconds : ℤ) (nanosecond : ℕ) → nanosecond < second_nanos → unsigned_abs (int_rem_euclid (unix_nanos seconds nanosecond) (pos second_nanos)) ≡ nanosecond
unfolding unix_nanos
nanosecond_back seconds nanosecond h = omega (arith, signed)
