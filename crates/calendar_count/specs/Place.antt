-- The place of a day in its year, and its count in closed form: what the code computes with.
use Rattle.std.specs.Prelude.{ℕ, ◌+◌, ◌-◌, ◌*◌, ◌%◌, ℤ, pos, ◌+ℤ◌, unsigned_abs}
use Rattle.std.specs.Int.{IsInRange}
use Rattle.calendar_count.specs.Range.{greatest_year, IsYear}
use Rattle.calendar_count.specs.Calendar.{days_in_year}
use Rattle.calendar_count.specs.Closed.{days_before_year}

-- the count of a place in a year
unfoldable pub place_count : ℤ → ℕ → ℕ
place_count y o = days_before_year (unsigned_abs (y +ℤ pos greatest_year)) + o - 1

-- the year has the place
abbrev pub IsPlace : ℤ → ℕ → Type 0
IsPlace y o = IsYear y × IsInRange 1 (days_in_year y) o

-- the first Thursday at or after a count
abbrev pub first_thursday : ℕ → ℕ
first_thursday a = a + (10 - a % 7) % 7

-- the count of a day of a week of a year that begins at a count
abbrev pub iso_count : ℕ → ℕ → ℕ → ℕ
iso_count a week day = first_thursday a + 7 * (week - 1) + day - 3
