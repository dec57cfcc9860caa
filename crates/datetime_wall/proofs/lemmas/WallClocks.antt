-- Wall clocks by their days and their nanoseconds of the day.
use Rattle.std.proofs.Common.{◌≡◌, ℕ, ◌<◌, true, false, ℤ, arith}
use Rattle.std.proofs.lemmas.Bool.{false_from_ne_true}
use Rattle.std.proofs.lemmas.Bool.Decides.{nat_tests}
use Rattle.std.proofs.lemmas.Int.{ints}
use Rattle.calendar_count.specs.Range.{IsCount}
use Rattle.calendar_count.proofs.lemmas.Signed.{signed}
use Rattle.datetime_wall.specs.Wall.{day_nanos, wall_clock, day_of, nanosecond_of, IsWallClock, is_wall_clock}

-- a day and a nanosecond of the day come back from their wall clock
pub day_of-wall_clock : (day nanosecond : ℕ) → nanosecond < day_nanos → day_of (wall_clock day nanosecond) ≡ day
unfolding wall_clock day_of
day_of-wall_clock day nanosecond h = omega (arith, signed)

pub nanosecond_of-wall_clock : (day nanosecond : ℕ) → nanosecond < day_nanos → nanosecond_of (wall_clock day nanosecond) ≡ nanosecond
unfolding wall_clock nanosecond_of
nanosecond_of-wall_clock day nanosecond h = omega (arith, signed)

-- and a wall clock from its day and its nanosecond of the day
pub wall_clock_parts : (wall : ℤ) → IsWallClock wall → wall_clock (day_of wall) (nanosecond_of wall) ≡ wall
unfolding wall_clock day_of nanosecond_of
wall_clock_parts wall h = omega (arith, signed)

pub nanosecond_of_bound : (wall : ℤ) → nanosecond_of wall < day_nanos
unfolding nanosecond_of
nanosecond_of_bound wall = omega (arith, signed)

pub day_of_bound : (wall : ℤ) → IsWallClock wall → IsCount (day_of wall)
unfolding day_of
day_of_bound wall h = omega (arith, signed)

-- the calendar has the day of a wall clock
pub IsWallClock-wall_clock : (day nanosecond : ℕ) → IsCount day → nanosecond < day_nanos → IsWallClock (wall_clock day nanosecond)
unfolding wall_clock
IsWallClock-wall_clock day nanosecond count h = (omega (arith, signed), omega (arith, signed))

pub IsCount-wall_clock : (day nanosecond : ℕ) → nanosecond < day_nanos → IsWallClock (wall_clock day nanosecond) → IsCount day
unfolding wall_clock
IsCount-wall_clock day nanosecond h within = omega (arith, signed)

-- one wall clock has one day and one nanosecond of the day
pub same_day : (day nanosecond other_day other_nanosecond : ℕ) → nanosecond < day_nanos → other_nanosecond < day_nanos → wall_clock day nanosecond ≡ wall_clock other_day other_nanosecond → day ≡ other_day
unfolding wall_clock
same_day day nanosecond other_day other_nanosecond h k e = omega (arith, signed)

pub same_nanosecond : (day nanosecond other_day other_nanosecond : ℕ) → nanosecond < day_nanos → other_nanosecond < day_nanos → wall_clock day nanosecond ≡ wall_clock other_day other_nanosecond → nanosecond ≡ other_nanosecond
unfolding wall_clock
same_nanosecond day nanosecond other_day other_nanosecond h k e = omega (arith, signed)

-- the test of wall clocks decides them
pub is_wall_clock_yes : (wall : ℤ) → IsWallClock wall → is_wall_clock wall ≡ true
is_wall_clock_yes wall h = grind (arith, nat_tests, ints)

pub is_wall_clock_is : (wall : ℤ) → is_wall_clock wall ≡ true → IsWallClock wall
is_wall_clock_is wall h = (grind (arith, nat_tests, ints), grind (arith, nat_tests, ints))

pub is_wall_clock_no : (wall : ℤ) → ¬ IsWallClock wall → is_wall_clock wall ≡ false
is_wall_clock_no wall h = false_from_ne_true (is_wall_clock wall) (λ yes. h (is_wall_clock_is wall yes))
