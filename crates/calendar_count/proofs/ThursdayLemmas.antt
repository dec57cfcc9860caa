-- The weeks of a year: its Thursdays.
use Rattle.std.proofs.Common.{◌≡◌, ℕ, ◌+◌, ◌-◌, ◌*◌, ◌/◌, ◌%◌, ◌<◌, ◌≤◌, Bool, false, ◌&&◌, arith, ℤ, pos, ◌+ℤ◌, unsigned_abs, int_eq}
use Rattle.std.specs.Prelude.{◌==◌}
use Rattle.std.specs.Int.{int_rem_euclid}
use Rattle.calendar_count.specs.Range.{greatest_year, IsYear, last_count, year_count}
use Rattle.calendar_count.specs.Calendar.{days_in_year, day_at, count_before, weekday_at, cycle_year, weeks_in_year, thursdays_of}
use Rattle.calendar_count.specs.Closed.{days_before_year, sevenths}
use Rattle.calendar_count.proofs.lemmas.Signed.{signed}
use Rattle.calendar_count.proofs.lemmas.Counting.{count_before-sevenths, count_before-rest}
use Rattle.calendar_count.proofs.CountLemmas.{days_before_year-next, days_before_year-lt}
use Rattle.calendar_count.proofs.ViewLemmas.{years_at-is, year_test-before, year_test-within, int_eq-false, and-false, and-true, years_since-is}

year_test-after : (k n : ℕ) (y : ℤ) → y +ℤ pos greatest_year ≡ pos n → days_before_year n + days_in_year y ≤ k → int_eq (day_at k).year y ≡ false
year_test-after k n y e h = int_eq-false (day_at k).year y (λ same. let within = years_at-is k y n e same in omega arith)

-- whether a day is a Thursday of the year
abbrev is_thursday_of : ℤ → ℕ → Bool
is_thursday_of y k = int_eq (day_at k).year y && (weekday_at k == 3)

-- the Thursdays of a year among days that hold the whole year
thursdays_among : (y : ℤ) (n all : ℕ) → y +ℤ pos greatest_year ≡ pos n → days_before_year (n + 1) ≤ all → count_before (is_thursday_of y) all + sevenths 3 (days_before_year n) ≡ sevenths 3 (days_before_year (n + 1))
thursdays_among y n all since few =
    let next = days_before_year-next y n since in
    let end = days_before_year (n + 1) in
    let within = count_before-sevenths (is_thursday_of y) 3 (days_before_year n) end (omega arith) (omega (arith, next))
    (λ k low. and-false _ _ (year_test-before k n y since low))
    (λ k low high. and-true _ _ (year_test-within k n y since low (omega (arith, next)))) in
    let whole : all - end + end ≡ all = omega arith in
    let rest = rw whole at (count_before-rest (is_thursday_of y) end (all - end) (λ j low. and-false _ _ (year_test-after j n y since (omega (arith, next))))) in
    omega (arith, within, rest)

pub weeks_in_year-is : (y : ℤ) (n : ℕ) → int_rem_euclid (y +ℤ pos greatest_year) (pos 400) ≡ pos n → n < 400 → weeks_in_year y + sevenths 3 (days_before_year n) ≡ sevenths 3 (days_before_year (n + 1))
unfolding weeks_in_year
weeks_in_year-is y n e h =
    let since : cycle_year y +ℤ pos greatest_year ≡ pos n = omega (arith, signed) in
    thursdays_among (cycle_year y) n 146_097 since (omega arith)

thursdays_of-is : (y : ℤ) (n : ℕ) → y +ℤ pos greatest_year ≡ pos n → n < year_count → thursdays_of y + sevenths 3 (days_before_year n) ≡ sevenths 3 (days_before_year (n + 1))
unfolding thursdays_of
thursdays_of-is y n since few =
    thursdays_among y n (last_count + 1) since (omega (arith, days_before_year-next y n since, days_before_year-lt y n year_count since few))

-- 400 years have 146097 days, which are 20871 weeks
days_before_year-round : (q m : ℕ) → days_before_year (400 * q + m) ≡ days_before_year m + 146_097 * q
days_before_year-round q m = omega arith

-- a year has as many Thursdays as the year of the first 400 that it repeats
pub weeks_are_thursdays : (y : ℤ) → IsYear y → weeks_in_year y ≡ thursdays_of y
weeks_are_thursdays y h =
    let n = unsigned_abs (y +ℤ pos greatest_year) in
    let since : y +ℤ pos greatest_year ≡ pos n = years_since-is y h in
    let q = n / 400 in
    let m = n % 400 in
    let place : int_rem_euclid (y +ℤ pos greatest_year) (pos 400) ≡ pos m = omega (arith, signed, since) in
    let split : 400 * q + m ≡ n = omega arith in
    let start = rw split at (days_before_year-round q m) in
    let next : 400 * q + (m + 1) ≡ n + 1 = omega arith in
    let end = rw next at (days_before_year-round q (m + 1)) in
    let few : n < year_count = omega (arith, signed, since) in
    omega (arith, weeks_in_year-is y m place (omega arith), thursdays_of-is y n since few, start, end)
