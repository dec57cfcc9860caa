-- Wall clocks and instants, each one whole number of nanoseconds, and an instant as a clock at an offset shows it.
use Rattle.std.specs.Prelude.{ℕ, ◌+◌, ◌-◌, ◌*◌, Bool, ◌&&◌, Option, None, Some, if◌then◌else◌, ℤ, pos, neg_ℤ, ◌+ℤ◌, ◌-ℤ◌, ◌*ℤ◌, ◌≤ℤ◌, int_le, int_lt, unsigned_abs, Result, Ok, Err}
use Rattle.std.specs.Int.{int_div_euclid, int_rem_euclid}
use Rattle.calendar_count.specs.declared.component_range.ComponentRange.{ComponentRange}
use Rattle.calendar_count.specs.Range.{last_count, unix_epoch}
use Rattle.datetime_wall.specs.Seconds.{day_seconds}
use Rattle.calendar_clock.specs.UtcOffset.{greatest_offset}
-- the nanoseconds of a second and of a day
pub use Rattle.calendar_clock.specs.Time.{second_nanos, day_nanos}

-- what a clock shows on a day, by its count, at a nanosecond of the day: the nanoseconds since 1970 began on that clock
unfoldable pub wall_clock : ℕ → ℕ → ℤ
wall_clock day nanosecond = (pos day -ℤ pos unix_epoch) *ℤ pos day_nanos +ℤ pos nanosecond

-- the day that a wall clock shows, by its count
unfoldable pub day_of : ℤ → ℕ
day_of wall = unsigned_abs (int_div_euclid wall (pos day_nanos) +ℤ pos unix_epoch)

-- and the nanosecond of that day
unfoldable pub nanosecond_of : ℤ → ℕ
nanosecond_of wall = unsigned_abs (int_rem_euclid wall (pos day_nanos))

-- the first and the last wall clock of the days that the calendar has
abbrev pub first_wall_clock : ℤ
first_wall_clock = neg_ℤ (pos (unix_epoch * day_nanos))

abbrev pub last_wall_clock : ℤ
last_wall_clock = pos ((last_count + 1 - unix_epoch) * day_nanos - 1)

abbrev pub IsWallClock : ℤ → Type 0
IsWallClock wall = (first_wall_clock ≤ℤ wall) × (wall ≤ℤ last_wall_clock)

abbrev pub is_wall_clock : ℤ → Bool
is_wall_clock wall = int_le first_wall_clock wall && int_le wall last_wall_clock

-- the wall clock of the calendar that is nearest to one
abbrev pub nearest_wall_clock : ℤ → ℤ
nearest_wall_clock wall =
    if int_lt wall first_wall_clock then first_wall_clock else (if int_lt last_wall_clock wall then last_wall_clock else wall)

-- the greatest whole number of units that is not after a wall clock
abbrev pub cut_to : ℕ → ℤ → ℤ
cut_to unit wall = int_div_euclid wall (pos unit) *ℤ pos unit

-- what a time of day makes, where there is one
abbrev pub at_time : {A : Type 0} → (ℕ → A) → Result ℕ ComponentRange → Result A ComponentRange
at_time f (Ok time) = Ok (f time)
at_time f (Err e) = Err e

-- a moment as a clock shows it: the wall clock, and the clock's offset from UTC in seconds
pub record Shown : Type 0 where
  pub wall : ℤ
  pub offset : ℤ

-- its instant: the nanoseconds since 1970 began in UTC
abbrev pub instant : Shown → ℤ
instant m = m.wall -ℤ m.offset *ℤ pos second_nanos

-- how many seconds from 1970 an instant lies at most, that of the first day with the greatest offset
abbrev pub greatest_distance : ℕ
greatest_distance = unix_epoch * day_seconds + greatest_offset

-- the wall clock of an instant at an offset
abbrev pub wall_at : ℤ → ℤ → ℤ
wall_at offset i = i +ℤ offset *ℤ pos second_nanos

-- an instant as the clock at an offset shows it, where the calendar has the day there
abbrev pub shown_at : ℤ → ℤ → Option Shown
shown_at offset i = if is_wall_clock (wall_at offset i) then Some (record { wall = wall_at offset i; offset = offset }) else None
