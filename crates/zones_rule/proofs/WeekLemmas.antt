-- The weeks of a month.
use Rattle.std.proofs.Common.{◌≡◌, inl, inr, ℕ, ◌+◌, ◌-◌, ◌*◌, ◌%◌, ◌<◌, ◌≤◌, sym, subst, arith, get_or, if◌then◌else◌}
use Rattle.std.proofs.lemmas.Bool.{cases_lt}
use Rattle.std.proofs.lemmas.Bool.Decides.{nat_tests}
use Rattle.zones_rule.specs.Years.{is_leap, first_day, days_before, first_day_of_month, first_day_after, weekday_from, unless_after, weekday_in, IsWeekday}

-- the first such day is one of seven
first_such : (day weekday : ℕ) → weekday ≤ 6 → ((weekday_from day weekday + 1) % 7 ≡ weekday) × (day ≤ weekday_from day weekday) × (weekday_from day weekday < day + 7)
first_such day weekday h = (omega arith, omega arith, omega arith)

pub week_law : (first next week weekday : ℕ) → first + 28 ≤ next → next ≤ first + 31 → 1 ≤ week → week ≤ 5 → weekday ≤ 6 → IsWeekday first next week weekday (unless_after (weekday_from first weekday + (week - 1) * 7) next)
week_law first next week weekday least most some few h =
    let such = first_such first weekday h in
    record {
      is_weekday = grind (arith, nat_tests, such.0);
      in_month = (grind (arith, nat_tests, such.1), grind (arith, nat_tests, such.2));
      in_week = λ k. (grind (arith, nat_tests, such.1), grind (arith, nat_tests, such.2));
      is_last = λ k. grind (arith, nat_tests, such.2);
    }

year_long : (year : ℕ) → 1 ≤ year → first_day (year + 1) ≡ first_day year + 365 + (if is_leap year then 1 else 0)
year_long year h = grind (arith, nat_tests)

gaps : (month : ℕ) → 1 ≤ month → month < 12 → (get_or days_before (month - 1) 0 + 28 ≤ get_or days_before month 0) × (get_or days_before month 0 ≤ get_or days_before (month - 1) 0 + 31)
gaps month some few = (grind arith, grind arith)

pub month_long : (year month : ℕ) → 1 ≤ year → 1 ≤ month → month ≤ 12 → (first_day_of_month year month + 28 ≤ first_day_after year month) × (first_day_after year month ≤ first_day_of_month year month + 31)
month_long year month h some few = elim (cases_lt month 12) [
  | inl lt ↦ (grind (arith, nat_tests, gaps month some lt), grind (arith, nat_tests, gaps month some lt))
  | inr ge ↦ let e : month ≡ 12 = omega arith in (grind (arith, nat_tests, year_long year h), grind (arith, nat_tests, year_long year h))
]

pub weekday_words : (year month week weekday day : ℕ) → 1 ≤ year → day ≡ weekday_in year month week weekday → 1 ≤ month → month ≤ 12 → 1 ≤ week → week ≤ 5 → weekday ≤ 6 → IsWeekday (first_day_of_month year month) (first_day_after year month) week weekday day
weekday_words year month week weekday day h e some few least most last =
    let long = month_long year month h some few in
    subst (IsWeekday _ _ week weekday) (sym e) (week_law (first_day_of_month year month) (first_day_after year month) week weekday long.0 long.1 least most last)
