-- Wall clocks moved by whole days and a time of day.
use Rattle.std.proofs.Common.{◌≡◌, ℕ, ◌<◌, ℤ, pos, ◌+ℤ◌, ◌*ℤ◌, ◌≤ℤ◌, arith}
use Rattle.calendar_count.specs.Range.{last_count}
use Rattle.calendar_count.proofs.lemmas.Signed.{signed}
use Rattle.datetime_wall.specs.Wall.{day_nanos, wall_clock, IsWallClock}

pub moved_wall_clock : (day time other_day other_time : ℕ) (moved days : ℤ) → pos time +ℤ moved ≡ days *ℤ pos day_nanos +ℤ pos other_time → pos other_day ≡ pos day +ℤ days → wall_clock other_day other_time ≡ wall_clock day time +ℤ moved
unfolding wall_clock
moved_wall_clock day time other_day other_time moved days sum later = omega (arith, signed, sum, later)

-- where the calendar has the wall clock, it has the day
pub moved_day_within : (day time other_time : ℕ) (moved days : ℤ) → pos time +ℤ moved ≡ days *ℤ pos day_nanos +ℤ pos other_time → other_time < day_nanos → IsWallClock (wall_clock day time +ℤ moved) → (pos 0 ≤ℤ (pos day +ℤ days)) × ((pos day +ℤ days) ≤ℤ pos last_count)
unfolding wall_clock
moved_day_within day time other_time moved days sum below within = (omega (arith, signed, sum, within), omega (arith, signed, sum, within))
