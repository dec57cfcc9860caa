-- Wall clocks cut to whole units: each unit divides a day.
use Rattle.std.proofs.Common.{◌≡◌, ◌*◌, ◌/◌, ℤ, arith}
use Rattle.calendar_clock.specs.Time.{micro_nanos, milli_nanos, minute_nanos, hour_nanos}
use Rattle.calendar_count.proofs.lemmas.Signed.{signed}
use Rattle.datetime_wall.specs.Wall.{second_nanos, day_nanos, wall_clock, day_of, nanosecond_of, IsWallClock, cut_to}

pub cut_day : (wall : ℤ) → IsWallClock wall → wall_clock (day_of wall) 0 ≡ cut_to day_nanos wall
unfolding wall_clock day_of
cut_day wall h = omega (arith, signed)

pub cut_hour : (wall : ℤ) → IsWallClock wall → wall_clock (day_of wall) (nanosecond_of wall / hour_nanos * hour_nanos) ≡ cut_to hour_nanos wall
unfolding wall_clock day_of nanosecond_of
cut_hour wall h = omega (arith, signed)

pub cut_minute : (wall : ℤ) → IsWallClock wall → wall_clock (day_of wall) (nanosecond_of wall / minute_nanos * minute_nanos) ≡ cut_to minute_nanos wall
unfolding wall_clock day_of nanosecond_of
cut_minute wall h = omega (arith, signed)

pub cut_second : (wall : ℤ) → IsWallClock wall → wall_clock (day_of wall) (nanosecond_of wall / second_nanos * second_nanos) ≡ cut_to second_nanos wall
unfolding wall_clock day_of nanosecond_of
cut_second wall h = omega (arith, signed)

pub cut_millisecond : (wall : ℤ) → IsWallClock wall → wall_clock (day_of wall) (nanosecond_of wall / milli_nanos * milli_nanos) ≡ cut_to milli_nanos wall
unfolding wall_clock day_of nanosecond_of
cut_millisecond wall h = omega (arith, signed)

pub cut_microsecond : (wall : ℤ) → IsWallClock wall → wall_clock (day_of wall) (nanosecond_of wall / micro_nanos * micro_nanos) ≡ cut_to micro_nanos wall
unfolding wall_clock day_of nanosecond_of
cut_microsecond wall h = omega (arith, signed)
