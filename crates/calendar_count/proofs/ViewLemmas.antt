-- What is counted along the walk, in closed form.
use Rattle.std.proofs.Common.{◌≡◌, ℕ, ◌+◌, ◌-◌, ◌/◌, ◌%◌, ◌<◌, ◌≤◌, inl, inr, Bool, true, false, ◌&&◌, refl, arith, ℤ, pos, negsuc, ◌+ℤ◌, ◌≤ℤ◌, unsigned_abs, int_eq}
use Rattle.std.proofs.lemmas.Bool.{cases_order}
use Rattle.std.proofs.lemmas.Bool.Decides.{Decides-int_eq}
use Rattle.std.proofs.lemmas.Int.{ints}
use Rattle.std.specs.Prelude.{◌==◌}
use Rattle.calendar_count.specs.Range.{greatest_year, IsYear}
use Rattle.calendar_count.specs.Calendar.{days_in_year, YearMonthDay, day_at, count_before, ordinal_at, weekday_at, weekdays_so_far, thursday_of, iso_year_at, iso_week_at}
use Rattle.calendar_count.specs.Closed.{days_before_year, sevenths}
use Rattle.calendar_count.proofs.lemmas.Signed.{signed}
use Rattle.calendar_count.proofs.lemmas.Counting.{count_before-from, count_before-sevenths}
use Rattle.calendar_count.proofs.CountLemmas.{Placed, day_at-Placed, days_before_month_bound, days_before_year-lt}

-- a day lies among those of its year
pub Placed-year : (t : YearMonthDay) (c : ℕ) (p : Placed t c) → (days_before_year p.years ≤ c) × (c < days_before_year p.years + days_in_year t.year)
Placed-year t c p =
    omega (arith, p.count_is, p.day_in, days_before_month_bound t.year t.month p.month_in.0 p.month_in.1)

-- and a count among those of a year leads to a day of the year
pub year_at-is : (k : ℕ) (y : ℤ) (n : ℕ) → y +ℤ pos greatest_year ≡ pos n → days_before_year n ≤ k → k < days_before_year n + days_in_year y → (day_at k).year ≡ y
year_at-is k y n e low high =
    let p = day_at-Placed k in
    let within = Placed-year (day_at k) k p in
    elim (cases_order p.years n) [
      | inl same ↦ let since : (day_at k).year +ℤ pos greatest_year ≡ pos n = rw same at p.since in omega (arith, signed)
      | inr (inl lt) ↦ absurd (omega (arith, days_before_year-lt (day_at k).year p.years n p.since lt))
      | inr (inr gt) ↦ absurd (omega (arith, days_before_year-lt y n p.years e gt))
    ]

-- the years since the first one, of the year of a count
pub years_at-is : (k : ℕ) (y : ℤ) (n : ℕ) → y +ℤ pos greatest_year ≡ pos n → (day_at k).year ≡ y → (days_before_year n ≤ k) × (k < days_before_year n + days_in_year y)
years_at-is k y n e same =
    let p = day_at-Placed k in
    let within = rw same at (Placed-year (day_at k) k p) in
    let since : y +ℤ pos greatest_year ≡ pos p.years = rw same at p.since in
    let years : p.years ≡ n = omega (arith, signed) in
    rw years at within

pub int_eq-false : (x y : ℤ) → (x ≡ y → ⊥) → int_eq x y ≡ false
int_eq-false x y h = grind (arith, ints)

int_eq-same : (x y : ℤ) → x ≡ y → int_eq x y ≡ true
int_eq-same x y e = (Decides-int_eq x y).1 e

pub year_test-before : (k n : ℕ) (y : ℤ) → y +ℤ pos greatest_year ≡ pos n → k < days_before_year n → int_eq (day_at k).year y ≡ false
year_test-before k n y e h = int_eq-false (day_at k).year y (λ same. omega (arith, years_at-is k y n e same))

pub year_test-within : (k n : ℕ) (y : ℤ) → y +ℤ pos greatest_year ≡ pos n → days_before_year n ≤ k → k < days_before_year n + days_in_year y → int_eq (day_at k).year y ≡ true
year_test-within k n y e low high = int_eq-same _ _ (year_at-is k y n e low high)

-- the ordinal is the place among the days of the year
pub ordinal_at-is : (c n : ℕ) (y : ℤ) → y +ℤ pos greatest_year ≡ pos n → (day_at c).year ≡ y → ordinal_at c + days_before_year n ≡ c + 1
unfolding ordinal_at
ordinal_at-is c n y e same =
    let within = years_at-is c y n e same in
    let count : count_before (λ k. int_eq (day_at k).year y) (c + 1) ≡ c + 1 - days_before_year n = count_before-from (λ k. int_eq (day_at k).year y) (days_before_year n) (c + 1) (λ k h. year_test-before k n y e h) (λ k low high. year_test-within k n y e low (omega arith)) in
    rw same (omega (arith, count))

pub and-false : (a b : Bool) → a ≡ false → (a && b) ≡ false
and-false a b e = rw e

pub and-true : (a b : Bool) → a ≡ true → (a && b) ≡ b
and-true a b e = rw e

-- a week of the year counts the weekdays from its first day on
pub weekdays_so_far-is : (w c n : ℕ) (y : ℤ) → w < 7 → y +ℤ pos greatest_year ≡ pos n → (day_at c).year ≡ y → weekdays_so_far w c + sevenths w (days_before_year n) ≡ sevenths w (c + 1)
unfolding weekdays_so_far
weekdays_so_far-is w c n y week e same =
    let within = years_at-is c y n e same in
    rw same (count_before-sevenths (λ k. int_eq (day_at k).year y && (weekday_at k == w)) w (days_before_year n) (c + 1) week (omega arith)
    (λ k h. and-false _ _ (year_test-before k n y e h))
    (λ k low high. and-true _ _ (year_test-within k n y e low (omega arith))))

pub nonnegative : (z : ℤ) → pos 0 ≤ℤ z → z ≡ pos (unsigned_abs z)
nonnegative (pos n) h = refl
nonnegative (negsuc n) h = absurd (omega (arith, signed))

pub years_since-is : (y : ℤ) → IsYear y → y +ℤ pos greatest_year ≡ pos (unsigned_abs (y +ℤ pos greatest_year))
years_since-is y h = nonnegative (y +ℤ pos greatest_year) (omega (arith, signed))

-- the week of a Thursday is the number of whole weeks before it in its year, and one more
pub iso_week-is : (c n : ℕ) (y : ℤ) → y +ℤ pos greatest_year ≡ pos n → iso_year_at c ≡ y → iso_week_at c ≡ (thursday_of c - days_before_year n) / 7 + 1
iso_week-is c n y e same =
    let t = thursday_of c in
    let within = years_at-is t y n e same in
    let third : t % 7 ≡ 3 = omega arith in
    omega (arith, weekdays_so_far-is 3 t n y (omega arith) e same, within, third)
