-- Numbers that name fields.
use Rattle.std.specs.Prelude.{◌≡◌, ℕ, ◌<◌, ◌≤◌, ℤ, pos, unsigned_abs}
use Rattle.calendar_count.specs.Calendar.{IsDay}
use Rattle.parsing_values.specs.declared.fields.Fields.{Fields}

-- a day in a year of four digits, a minute of a day, no leap second, and an offset within 25:59
pub record NameFields (year month day minute second : ℕ) (offset : ℤ) : Type 0 where
  pub day_is_there : IsDay (pos year) month day
  pub four_digits : year ≤ 9999
  pub within_a_day : minute < 1440
  pub within_a_minute : second < 60
  pub is_offset : unsigned_abs offset ≤ 1559

-- the fields have these numbers
pub record HaveNumbers (f : Fields) (year month day minute second fraction : ℕ) (offset : ℤ) : Type 0 where
  pub same_year : f.year ≡ year
  pub same_month : f.month ≡ month
  pub same_day : f.day ≡ day
  pub same_minute : f.minute ≡ minute
  pub same_second : f.second ≡ second
  pub same_fraction : f.fraction ≡ fraction
  pub same_offset : f.offset ≡ offset
