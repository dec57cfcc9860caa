-- Steps round the year and round the week, in closed form.
use Rattle.std.proofs.Common.{◌≡◌, ℕ, zero, suc, ◌+◌, ◌-◌, ◌%◌, ◌<◌, ◌≤◌, refl, ap, arith}
use Rattle.std.proofs.lemmas.Bool.Decides.{nat_tests}
use Rattle.calendar_count.specs.Steps.{steps}
use Rattle.calendar_count.specs.declared.month.Month.{Month}
use Rattle.calendar_count.specs.declared.month.Month.TheVariants.{January, February, March, April, May, June, July, August, September, October, November, December}
use Rattle.calendar_count.specs.declared.weekday.Weekday.{Weekday}
use Rattle.calendar_count.specs.declared.weekday.Weekday.TheVariants.{Monday, Tuesday, Wednesday, Thursday, Friday, Saturday, Sunday}
use Rattle.calendar_count.specs.Month.{month_number, next_month}
use Rattle.calendar_count.specs.Weekday.{days_from_monday, next_weekday}

next_month-is : (m : ℕ) → 1 ≤ m → m ≤ 12 → next_month m ≡ m % 12 + 1
next_month-is m low high = grind (arith, nat_tests)

pub months_on : (n m : ℕ) → 1 ≤ m → m ≤ 12 → steps next_month n m ≡ (m - 1 + n) % 12 + 1
unfolding steps
months_on zero m low high = omega arith
months_on (suc n) m low high =
    let before = months_on n m low high in
    let next = next_month-is (steps next_month n m) (omega (arith, before)) (omega (arith, before)) in
    omega (arith, before, next)

next_weekday-is : (w : ℕ) → w < 7 → next_weekday w ≡ (w + 1) % 7
next_weekday-is w high = grind (arith, nat_tests)

pub weekdays_on : (n w : ℕ) → w < 7 → steps next_weekday n w ≡ (w + n) % 7
unfolding steps
weekdays_on zero w high = omega arith
weekdays_on (suc n) w high =
    let before = weekdays_on n w high in
    let next = next_weekday-is (steps next_weekday n w) (omega (arith, before)) in
    omega (arith, before, next)

pub month_bound : (m : Month) → (1 ≤ month_number m) × (month_number m ≤ 12)
month_bound January = (omega arith, omega arith)
month_bound February = (omega arith, omega arith)
month_bound March = (omega arith, omega arith)
month_bound April = (omega arith, omega arith)
month_bound May = (omega arith, omega arith)
month_bound June = (omega arith, omega arith)
month_bound July = (omega arith, omega arith)
month_bound August = (omega arith, omega arith)
month_bound September = (omega arith, omega arith)
month_bound October = (omega arith, omega arith)
month_bound November = (omega arith, omega arith)
month_bound December = (omega arith, omega arith)

pub weekday_bound : (w : Weekday) → days_from_monday w < 7
weekday_bound Monday = omega arith
weekday_bound Tuesday = omega arith
weekday_bound Wednesday = omega arith
weekday_bound Thursday = omega arith
weekday_bound Friday = omega arith
weekday_bound Saturday = omega arith
weekday_bound Sunday = omega arith

-- whole rounds lead back
pub months_round : (n m : ℕ) → 1 ≤ m → m ≤ 12 → steps next_month n m ≡ steps next_month (n % 12) m
months_round n m low high = omega (arith, months_on n m low high, months_on (n % 12) m low high)

pub weekdays_round : (n w : ℕ) → w < 7 → steps next_weekday n w ≡ steps next_weekday (n % 7) w
weekdays_round n w high = omega (arith, weekdays_on n w high, weekdays_on (n % 7) w high)

-- one step more
pub one_more : (next : ℕ → ℕ) (n from : ℕ) → steps next (n + 1) from ≡ next (steps next n from)
unfolding steps
one_more next n from = let e : n + 1 ≡ suc n = omega arith in rw e refl

pub one_more_first : (next : ℕ → ℕ) (n from : ℕ) → steps next (n + 1) from ≡ steps next n (next from)
unfolding steps
one_more_first next zero from = refl
one_more_first next (suc n) from =
    let e : suc n + 1 ≡ suc (n + 1) = omega arith in
    rw e (ap next (one_more_first next n from))
