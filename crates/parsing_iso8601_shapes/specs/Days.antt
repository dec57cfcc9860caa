-- The days of a month that other dates name.
use Rattle.std.specs.Prelude.{◌≡◌, ◌≤◌, ◌+◌, ◌-◌, ◌*◌, ◌%◌, ℕ, nat_lt, if◌then◌else◌, Ok, pos}
use Rattle.calendar_count.specs.Calendar.{IsDay, day_at, ymd}
use Rattle.calendar_count.specs.Closed.{days_before_year}
use Rattle.calendar_count.specs.Range.{greatest_year}
use Rattle.parsing_values.specs.NamedDay.{ordinal_date_of, iso_week_date_of}

-- a year by the two pairs of its digits
abbrev pub year_by : ℕ → ℕ → ℕ
year_by century last_two = century * 100 + last_two

-- where the months of a year of so many days stand in a table
abbrev pub months_row : ℕ → ℕ
months_row length = if nat_lt 365 length then 16 else 0

-- the days from the first one of a year to its first Thursday
abbrev pub first_thursday_of : ℕ → ℕ
first_thursday_of year = (10 - days_before_year (year + greatest_year) % 7) % 7

-- a day of a year is this day of this month
pub record NamesOrdinal (year ordinal month day : ℕ) : Type 0 where
  pub count : ℕ
  pub named : ordinal_date_of (pos year) ordinal ≡ Ok count
  pub day_is : day_at count ≡ ymd (pos year) month day
  pub there : IsDay (pos year) month day

-- a day of a week of a year is this day of that year, which has the week
pub record NamesWeek (year week weekday ordinal : ℕ) : Type 0 where
  pub some : 1 ≤ week
  pub most : week ≤ 53
  pub same_day : iso_week_date_of (pos year) week weekday ≡ ordinal_date_of (pos year) ordinal

-- a day of a week of a year is this day of a month of the same year
pub record NamesWeekDay (year week weekday month day : ℕ) : Type 0 where
  pub some : 1 ≤ week
  pub most : week ≤ 53
  pub count : ℕ
  pub named : iso_week_date_of (pos year) week weekday ≡ Ok count
  pub day_is : day_at count ≡ ymd (pos year) month day
  pub there : IsDay (pos year) month day
