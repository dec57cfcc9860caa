-- The days whose year is written in four digits, by their counts.
use Rattle.std.proofs.Common.{◌≡◌, ℕ, ◌+◌, ◌<◌, ◌≤◌, ◌&&◌, inl, inr, arith, pos, ◌≤ℤ◌, ◌<ℤ◌}
use Rattle.std.specs.Prelude.{nat_le, nat_lt}
use Rattle.std.proofs.lemmas.Bool.{cases_lt}
use Rattle.std.proofs.lemmas.Bool.Decides.{nat_tests}
use Rattle.std.proofs.lemmas.Int.{ints}
use Rattle.calendar_count.specs.Range.{greatest_year, year_zero, year_ten_thousand}
use Rattle.calendar_count.specs.Calendar.{day_at, has_four_digits}
use Rattle.calendar_count.proofs.lemmas.Signed.{signed}
use Rattle.calendar_count.proofs.CountLemmas.{Placed, day_at-Placed, days_before_year-lt}
use Rattle.calendar_count.proofs.ViewLemmas.{Placed-year}

-- the years since the first one of a day, by its count
years_low : (n : ℕ) → (p : Placed (day_at n) n) → year_zero ≤ n → greatest_year ≤ p.years
years_low n p h =
    let within = Placed-year (day_at n) n p in
    elim (cases_lt p.years greatest_year) [
      | inl lt ↦ absurd (omega (arith, days_before_year-lt (day_at n).year p.years greatest_year p.since lt))
      | inr ge ↦ ge
    ]

years_high : (n : ℕ) → (p : Placed (day_at n) n) → n < year_ten_thousand → p.years < greatest_year + 10_000
years_high n p h = let within = Placed-year (day_at n) n p in omega arith

years_before : (n : ℕ) → (p : Placed (day_at n) n) → n < year_zero → p.years < greatest_year
years_before n p h = let within = Placed-year (day_at n) n p in omega arith

years_after : (n : ℕ) → (p : Placed (day_at n) n) → year_ten_thousand ≤ n → greatest_year + 10_000 ≤ p.years
years_after n p h =
    let within = Placed-year (day_at n) n p in
    elim (cases_lt p.years (greatest_year + 10_000)) [
      | inl lt ↦ absurd (omega (arith, days_before_year-lt (day_at n).year p.years (greatest_year + 10_000) p.since lt))
      | inr ge ↦ ge
    ]

pub four_digit_years : (n : ℕ) → has_four_digits (day_at n).year ≡ (nat_le year_zero n && nat_lt n year_ten_thousand)
four_digit_years n =
    let p = day_at-Placed n in
    let since = p.since in
    elim (cases_lt n year_zero) [
      | inl early ↦ let few = years_before n p early in let y : (day_at n).year <ℤ pos 0 = omega (arith, signed) in grind (arith, nat_tests, ints)
      | inr from ↦ elim (cases_lt n year_ten_thousand) [
        | inl to ↦
            let low = years_low n p from in
            let high = years_high n p to in
            let a : pos 0 ≤ℤ (day_at n).year = omega (arith, signed) in
            let b : (day_at n).year ≤ℤ pos 9999 = omega (arith, signed) in
            grind (arith, nat_tests, ints)
        | inr late ↦
            let many = years_after n p late in
            let y : pos 9999 <ℤ (day_at n).year = omega (arith, signed) in
            grind (arith, nat_tests, ints)
      ]
    ]
