-- A wall clock some seconds later: the seconds of the day are counted from three days earlier on, so that none is below 0.
use Rattle.std.proofs.Common.{◌≡◌, ℕ, ◌+◌, ◌*◌, ◌/◌, ◌%◌, ◌<◌, ℤ, pos, ◌+ℤ◌, ◌*ℤ◌, arith}
use Rattle.calendar_count.specs.Range.{last_count}
use Rattle.calendar_count.proofs.lemmas.Signed.{signed}
use Rattle.datetime_wall.specs.Wall.{second_nanos, day_nanos, wall_clock, IsWallClock}

-- a time of day by its seconds and its nanoseconds, some seconds later
pub record Shifted (time second nanosecond shifted : ℕ) (seconds : ℤ) : Type 0 where
  pub time_is : time ≡ second * second_nanos + nanosecond
  pub below : nanosecond < second_nanos
  pub shifted_is : pos shifted ≡ pos (second + 259_200) +ℤ seconds

pub Shifted-parts : (time shifted : ℕ) (seconds : ℤ) → pos shifted ≡ pos (time / second_nanos + 259_200) +ℤ seconds → Shifted time (time / second_nanos) (time % second_nanos) shifted seconds
Shifted-parts time shifted seconds e = record {
  time_is = omega arith;
  below = omega arith;
  shifted_is = e;
}

pub moved_wall : (day time second nanosecond shifted : ℕ) (seconds : ℤ) → Shifted time second nanosecond shifted seconds → (wall_clock day time +ℤ seconds *ℤ pos second_nanos) +ℤ pos (3 * day_nanos) ≡ wall_clock (day + shifted / 86_400) (shifted % 86_400 * second_nanos + nanosecond)
unfolding wall_clock
moved_wall day time second nanosecond shifted seconds h = omega (arith, signed, h.time_is, h.shifted_is)

pub wall_clock_later : (day nanosecond : ℕ) → wall_clock (day + 3) nanosecond ≡ wall_clock day nanosecond +ℤ pos (3 * day_nanos)
unfolding wall_clock
wall_clock_later day nanosecond = omega (arith, signed)

pub moved_value : (day time second nanosecond shifted count : ℕ) (seconds : ℤ) → Shifted time second nanosecond shifted seconds → day + shifted / 86_400 ≡ count + 3 → wall_clock count (shifted % 86_400 * second_nanos + nanosecond) ≡ wall_clock day time +ℤ seconds *ℤ pos second_nanos
moved_value day time second nanosecond shifted count seconds h e =
    let moved = rw e at (moved_wall day time second nanosecond shifted seconds h) in
    omega (arith, signed, moved, wall_clock_later count (shifted % 86_400 * second_nanos + nanosecond))

pub too_early : (day time second nanosecond shifted : ℕ) (seconds : ℤ) → Shifted time second nanosecond shifted seconds → day + shifted / 86_400 < 3 → ¬ IsWallClock (wall_clock day time +ℤ seconds *ℤ pos second_nanos)
unfolding wall_clock
too_early day time second nanosecond shifted seconds h low within =
    omega (arith, signed, h.time_is, h.below, h.shifted_is, within)

pub too_late : (day time second nanosecond shifted count : ℕ) (seconds : ℤ) → Shifted time second nanosecond shifted seconds → day + shifted / 86_400 ≡ count + 3 → last_count < count → ¬ IsWallClock (wall_clock day time +ℤ seconds *ℤ pos second_nanos)
unfolding wall_clock
too_late day time second nanosecond shifted count seconds h e high within =
    omega (arith, signed, h.time_is, h.shifted_is, within)
