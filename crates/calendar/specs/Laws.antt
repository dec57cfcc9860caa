-- Laws of the calendar, over its definitions.
use Rattle.std.specs.Prelude.{◌≡◌, ℕ, Bool, true, false, Some, List, [], ◌∷◌, pos, ◌+ℤ◌, ◌-ℤ◌}
use Rattle.std.specs.Int.{IsInRange}
use Rattle.std.specs.Iterator.{YieldsFirst, YieldsLast}
use Rattle.calendar_count.specs.Range.{julian_zero, IsYear}
use Rattle.calendar_count.specs.Calendar.{days_in_year, day_at, ordinal_at, weekday_at, iso_year_at, iso_week_at, IsDay, IsJulianDay, IsIsoDay}

-- each constructor accepts what its view says of the day, and only this day has that view
pub record ViewsUndone (day : ℕ) : Type 0 where
  pub calendar_date : IsDay (day_at day).year (day_at day).month (day_at day).day
  pub calendar_date_only : (other : ℕ) → day_at other ≡ day_at day → other ≡ day
  pub ordinal_date : IsYear (day_at day).year × IsInRange 1 (days_in_year (day_at day).year) (ordinal_at day)
  pub ordinal_date_only : (other : ℕ) → (day_at other).year ≡ (day_at day).year → ordinal_at other ≡ ordinal_at day → other ≡ day
  pub iso_week_date : IsYear (iso_year_at day) × IsIsoDay (iso_year_at day) (iso_week_at day) (weekday_at day) day
  pub iso_week_date_only : (other : ℕ) → IsIsoDay (iso_year_at day) (iso_week_at day) (weekday_at day) other → other ≡ day
  pub julian_day : IsJulianDay (pos day -ℤ pos julian_zero)
  pub julian_day_only : (other : ℕ) → pos other ≡ (pos day -ℤ pos julian_zero) +ℤ pos julian_zero → other ≡ day

-- calls at the start, where true, and at the back of a list of days, each of which gave a day: what they took from the start, what they left, and what they took from the back
unfoldable pub Takes : List Bool → List ℕ → List ℕ → List ℕ → List ℕ → Type 0
Takes [] days prefix left back = (prefix ≡ []) × (left ≡ days) × (back ≡ [])
Takes (true ∷ calls) days prefix left back =
    (day : ℕ) × (rest : List ℕ) × (others : List ℕ) × YieldsFirst (λ s. s) days (Some day) rest × (prefix ≡ day ∷ others) × Takes calls rest others left back
Takes (false ∷ calls) days prefix left back =
    (day : ℕ) × (rest : List ℕ) × (others : List ℕ) × YieldsLast (λ s. s) days (Some day) rest × (back ≡ day ∷ others) × Takes calls rest prefix left others
