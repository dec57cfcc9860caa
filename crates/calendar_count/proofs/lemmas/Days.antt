-- Days and their counts: their range, their order, and what of a day says which one it is.
use Rattle.std.proofs.Common.{◌≡◌, ℕ, ◌<◌, ◌≤◌, ◌↔◌, inl, inr, refl, arith}
use Rattle.std.proofs.lemmas.Bool.{cases_lt}
use Rattle.calendar_count.specs.Range.{IsYear, last_count, year_count}
use Rattle.calendar_count.specs.Calendar.{days_in_year, day_at, ordinal_at, weekday_at, thursday_of, iso_year_at, iso_week_at, IsDay, ComesBefore}
use Rattle.calendar_count.proofs.lemmas.Signed.{signed}
use Rattle.calendar_count.proofs.lemmas.Places.{iso_count-is}
use Rattle.calendar_count.proofs.CountLemmas.{day_at-Placed, Placed-same, count-lt, cases_day}
use Rattle.calendar_count.proofs.ViewLemmas.{Placed-year, ordinal_at-is}

-- each day of the range is in a year of the range
pub year_bound : (c : ℕ) → c ≤ last_count → IsYear (day_at c).year
year_bound c h =
    let p = day_at-Placed c in
    let within = Placed-year (day_at c) c p in
    let since = p.since in
    let few : p.years < year_count = elim (cases_lt p.years year_count) [ inl lt ↦ lt | inr ge ↦ absurd (omega arith) ] in
    omega (arith, signed)

pub iso_year_bound : (c : ℕ) → c ≤ last_count → IsYear (iso_year_at c)
iso_year_bound c h = year_bound (thursday_of c) (omega arith)

-- each day of the range is one that the calendar has
pub day_valid : (c : ℕ) → c ≤ last_count → IsDay (day_at c).year (day_at c).month (day_at c).day
day_valid c h =
    let p = day_at-Placed c in
    (year_bound c h, p.month_in.0, p.month_in.1, p.day_in.0, p.day_in.1)

-- a day has a place in its year
pub ordinal_bound : (c : ℕ) → (1 ≤ ordinal_at c) × (ordinal_at c ≤ days_in_year (day_at c).year)
ordinal_bound c =
    let p = day_at-Placed c in
    let within = Placed-year (day_at c) c p in
    let place = ordinal_at-is c p.years (day_at c).year p.since refl in
    (omega (arith, within, place), omega (arith, within, place))

-- two counts with one day are one
pub day_at_same : (c d : ℕ) → day_at c ≡ day_at d → c ≡ d
day_at_same c d e = Placed-same (day_at c) c d (day_at-Placed c) (rw e (day_at-Placed d))

-- and so are two with one place in one year
pub ordinal_at_same : (c d : ℕ) → (day_at c).year ≡ (day_at d).year → ordinal_at c ≡ ordinal_at d → c ≡ d
ordinal_at_same c d year ordinal =
    let p = day_at-Placed d in
    omega (arith, ordinal_at-is c p.years (day_at d).year p.since year, ordinal_at-is d p.years (day_at d).year p.since refl, ordinal)

-- and two with one weekday of one week of ISO 8601
pub iso_at_same : (c d : ℕ) → iso_year_at c ≡ iso_year_at d → iso_week_at c ≡ iso_week_at d → weekday_at c ≡ weekday_at d → c ≡ d
iso_at_same c d year week weekday =
    let t = day_at-Placed (thursday_of d) in
    let one = iso_count-is c t.years (iso_week_at d) (weekday_at d) (iso_year_at d) t.since year week weekday in
    let other = iso_count-is d t.years (iso_week_at d) (weekday_at d) (iso_year_at d) t.since refl refl refl in
    omega (arith, one.0, other.0)

-- counts are in the order of year, month and day of the month
pub days_in_order : (one other : ℕ) → (one < other) ↔ ComesBefore (day_at one) (day_at other)
days_in_order one other =
    let p = day_at-Placed one in
    let q = day_at-Placed other in (
      (λ lt. elim (cases_day (day_at one) (day_at other)) [
        | inl before ↦ before
        | inr (inl after) ↦ absurd (omega (arith, lt, count-lt _ _ _ _ q p after))
        | inr (inr same) ↦ absurd (omega (arith, lt, day_at_same one other same))
      ]),
      (λ before. count-lt _ _ _ _ p q before),
    )
