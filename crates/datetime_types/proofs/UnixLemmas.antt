-- Instants by their whole seconds, rounded down, and the nanoseconds after them.
use Rattle.std.proofs.Common.{◌≡◌, ℕ, ◌+◌, ◌*◌, ◌%◌, ◌<◌, ◌↔◌, ℤ, pos, ◌+ℤ◌, ◌-ℤ◌, ◌*ℤ◌, subst, sym, arith}
use Rattle.std.specs.Int.{int_div_euclid, int_rem_euclid}
use Rattle.std.specs.Prelude.{int_div, int_rem}
use Rattle.std.proofs.lemmas.Int.{quot-rem}
use Rattle.calendar_count.specs.Range.{unix_epoch}
use Rattle.calendar_count.proofs.lemmas.Signed.{signed}
use Rattle.datetime_wall.specs.Wall.{second_nanos, day_of, nanosecond_of, IsWallClock, Shown, instant}
use Rattle.datetime_wall.specs.Seconds.{day_seconds, IsUnixSecond}
use Rattle.datetime_types.specs.Unix.{unix_nanos}

pub unix_nanos_range : (seconds : ℤ) (nanosecond : ℕ) → IsUnixSecond seconds → nanosecond < second_nanos → IsWallClock (unix_nanos seconds nanosecond)
unfolding unix_nanos
unix_nanos_range seconds nanosecond within h = (omega (arith, signed), omega (arith, signed))

pub unix_nanos_day : (seconds : ℤ) (nanosecond count : ℕ) → nanosecond < second_nanos → pos count ≡ int_div_euclid seconds (pos day_seconds) +ℤ pos unix_epoch → day_of (unix_nanos seconds nanosecond) ≡ count
unfolding unix_nanos day_of
unix_nanos_day seconds nanosecond count h is = omega (arith, signed)

pub unix_nanos_time : (seconds : ℤ) (nanosecond second : ℕ) → nanosecond < second_nanos → pos second ≡ int_rem_euclid seconds (pos day_seconds) → nanosecond_of (unix_nanos seconds nanosecond) ≡ second * second_nanos + nanosecond
unfolding unix_nanos nanosecond_of
unix_nanos_time seconds nanosecond second h is = omega (arith, signed)

-- an instant by its whole seconds and what a clock shows after them
pub instant_parts : (m : Shown) → int_div_euclid (instant m) (pos second_nanos) *ℤ pos second_nanos +ℤ pos (nanosecond_of m.wall % second_nanos) ≡ instant m
unfolding nanosecond_of
instant_parts m = omega (arith, signed)

-- the whole seconds of an instant by those of the wall clock
pub instant_seconds : (m : Shown) → int_div_euclid (instant m) (pos second_nanos) ≡ int_div_euclid m.wall (pos second_nanos) -ℤ m.offset
instant_seconds m = omega (arith, signed)

pub wall_parts : (wall : ℤ) → int_div_euclid wall (pos second_nanos) *ℤ pos second_nanos +ℤ pos (nanosecond_of wall % second_nanos) ≡ wall
unfolding nanosecond_of
wall_parts wall = omega (arith, signed)

-- the calendar has the second of an instant that it has
pub second_within : (seconds : ℤ) (nanosecond : ℕ) → nanosecond < second_nanos → IsWallClock (seconds *ℤ pos second_nanos +ℤ pos nanosecond) → IsUnixSecond seconds
second_within seconds nanosecond h within = (omega (arith, signed, within), omega (arith, signed, within))

pub within_second : (seconds : ℤ) (nanosecond : ℕ) → nanosecond < second_nanos → IsUnixSecond seconds → IsWallClock (seconds *ℤ pos second_nanos +ℤ pos nanosecond)
within_second seconds nanosecond h within = (omega (arith, signed, within), omega (arith, signed, within))

-- what holds where the calendar has the second holds where it has the instant
pub where_within : (T : Type 0) (seconds : ℤ) (nanosecond : ℕ) (instant : ℤ) → (T ↔ (IsUnixSecond seconds × (nanosecond < second_nanos))) → seconds *ℤ pos second_nanos +ℤ pos nanosecond ≡ instant → nanosecond < second_nanos → (T ↔ IsWallClock instant)
where_within T seconds nanosecond instant within is h = (
  λ t. subst IsWallClock is (within_second seconds nanosecond h (within.0 t).0),
  λ w. within.1 (second_within seconds nanosecond h (subst IsWallClock (sym is) w), h),
)

-- a duration by its whole seconds and the nanoseconds past them
pub duration_whole : (d : ℤ) → int_div d (pos second_nanos) *ℤ pos second_nanos +ℤ int_rem d (pos second_nanos) ≡ d
duration_whole d = quot-rem d (pos second_nanos)
