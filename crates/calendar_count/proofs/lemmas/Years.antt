-- The days of a year by the years since the first one.
use Rattle.std.proofs.Common.{◌≡◌, ℕ, ◌+◌, ◌<◌, ◌≤◌, ℤ, pos, ◌+ℤ◌, unsigned_abs}
use Rattle.calendar_count.specs.Range.{greatest_year, IsYear}
use Rattle.calendar_count.specs.Calendar.{YearMonthDay, days_in_year, day_at, ordinal_at, weekdays_so_far}
use Rattle.calendar_count.specs.Closed.{days_before_year, sevenths}
use Rattle.calendar_count.proofs.CountLemmas as counts
use Rattle.calendar_count.proofs.ViewLemmas as views

-- the days between the year's ends are those of the year
pub year_between : (k : ℕ) (y : ℤ) (n : ℕ) → y +ℤ pos greatest_year ≡ pos n → days_before_year n ≤ k → k < days_before_year n + days_in_year y → (day_at k).year ≡ y
year_between = views.year_at-is

pub days_between : (k : ℕ) (y : ℤ) (n : ℕ) → y +ℤ pos greatest_year ≡ pos n → (day_at k).year ≡ y → (days_before_year n ≤ k) × (k < days_before_year n + days_in_year y)
days_between = views.years_at-is

pub ordinal_after : (c n : ℕ) (y : ℤ) → y +ℤ pos greatest_year ≡ pos n → (day_at c).year ≡ y → ordinal_at c + days_before_year n ≡ c + 1
ordinal_after = views.ordinal_at-is

pub weekdays_after : (w c n : ℕ) (y : ℤ) → w < 7 → y +ℤ pos greatest_year ≡ pos n → (day_at c).year ≡ y → weekdays_so_far w c + sevenths w (days_before_year n) ≡ sevenths w (c + 1)
weekdays_after = views.weekdays_so_far-is

-- a year of the calendar has years before it
pub years_since : (y : ℤ) → IsYear y → y +ℤ pos greatest_year ≡ pos (unsigned_abs (y +ℤ pos greatest_year))
years_since = views.years_since-is

-- a later year begins after the year
pub years_apart : (y : ℤ) (n m : ℕ) → y +ℤ pos greatest_year ≡ pos n → n < m → days_before_year n + days_in_year y ≤ days_before_year m
years_apart = counts.days_before_year-lt

pub same_parts : (a b : YearMonthDay) → a.year ≡ b.year → a.month ≡ b.month → a.day ≡ b.day → a ≡ b
same_parts = counts.same_parts
