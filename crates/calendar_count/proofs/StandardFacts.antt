-- What everybody knows of the calendar, so that a wrong definition does not check.
use Rattle.std.proofs.Common.{◌≡◌, ℕ, ◌+◌, ◌≤◌, [], ◌∷◌, map, true, false, refl, arith, ℤ, pos, neg_ℤ, ◌+ℤ◌}
use Rattle.calendar_count.specs.Range.{greatest_year, last_count, julian_zero, unix_epoch, year_zero, year_ten_thousand}
use Rattle.calendar_count.specs.Calendar.{is_leap_year, days_in_month, day_at, ordinal_at, weekday_at, iso_year_at, iso_week_at, weeks_in_year, ymd}
use Rattle.calendar_count.specs.Closed.{days_before_year, days_before_month}
use Rattle.calendar_count.proofs.CountLemmas.{Placed-day_at}
use Rattle.calendar_count.proofs.ViewLemmas.{ordinal_at-is}
use Rattle.calendar_count.proofs.ThursdayLemmas.{weeks_in_year-is}
use Rattle.calendar_count.proofs.lemmas.Places.{iso_at}

-- a day by the days before its year and before its month
placed : (y : ℤ) (m d c n : ℕ) → y +ℤ pos greatest_year ≡ pos n → (1 ≤ m) × (m ≤ 12) → (1 ≤ d) × (d ≤ days_in_month y m) → c + 1 ≡ days_before_year n + days_before_month y m + d → day_at c ≡ ymd y m d
placed y m d c n since month day count = Placed-day_at (ymd y m d) c (record { years = n; since = since; month_in = month; day_in = day; count_is = count })

-- of the centuries every fourth is a leap year, also before year 0
pub leap_years : map is_leap_year (pos 1900 ∷ pos 2000 ∷ pos 2023 ∷ pos 2024 ∷ pos 2100 ∷ pos 0 ∷ neg_ℤ (pos 4) ∷ neg_ℤ (pos 100) ∷ []) ≡ false ∷ true ∷ false ∷ true ∷ false ∷ true ∷ true ∷ false ∷ []
leap_years = refl

pub months_of_2023 : map (days_in_month (pos 2023)) (1 ∷ 2 ∷ 3 ∷ 4 ∷ 5 ∷ 6 ∷ 7 ∷ 8 ∷ 9 ∷ 10 ∷ 11 ∷ 12 ∷ []) ≡ 31 ∷ 28 ∷ 31 ∷ 30 ∷ 31 ∷ 30 ∷ 31 ∷ 31 ∷ 30 ∷ 31 ∷ 30 ∷ 31 ∷ []
months_of_2023 = refl

-- the first day and the last
pub ends : (day_at 0 ≡ ymd (neg_ℤ (pos 999_999)) 1 1) × (day_at last_count ≡ ymd (pos 999_999) 12 31)
unfolding day_at
ends = (refl, placed (pos 999_999) 12 31 last_count 1_999_998 refl (omega arith, omega arith) (omega arith, omega arith) refl)

-- the first days of years 0, 1 and 10000
pub first_days : (day_at year_zero ≡ ymd (pos 0) 1 1) × (day_at (year_zero + 366) ≡ ymd (pos 1) 1 1) × (day_at year_ten_thousand ≡ ymd (pos 10_000) 1 1)
first_days = (
  placed (pos 0) 1 1 year_zero 999_999 refl (omega arith, omega arith) (omega arith, omega arith) refl,
  placed (pos 1) 1 1 (year_zero + 366) 1_000_000 refl (omega arith, omega arith) (omega arith, omega arith) refl,
  placed (pos 10_000) 1 1 year_ten_thousand 1_009_999 refl (omega arith, omega arith) (omega arith, omega arith) refl,
)

-- 1970-01-01 was a Thursday
pub epoch : (day_at unix_epoch ≡ ymd (pos 1970) 1 1) × (weekday_at unix_epoch ≡ 3)
epoch = (placed (pos 1970) 1 1 unix_epoch 1_001_969 refl (omega arith, omega arith) (omega arith, omega arith) refl, refl)

-- Julian day 2451545 is 2000-01-01, a Saturday; Julian day 2299161 is 1582-10-15, the first Friday of the calendar in use
pub julian_days : (day_at (julian_zero + 2_451_545) ≡ ymd (pos 2000) 1 1) × (weekday_at (julian_zero + 2_451_545) ≡ 5)
    × (day_at (julian_zero + 2_299_161) ≡ ymd (pos 1582) 10 15) × (weekday_at (julian_zero + 2_299_161) ≡ 4)
julian_days = (
  placed (pos 2000) 1 1 (julian_zero + 2_451_545) 1_001_999 refl (omega arith, omega arith) (omega arith, omega arith) refl,
  refl,
  placed (pos 1582) 10 15 (julian_zero + 2_299_161) 1_001_581 refl (omega arith, omega arith) (omega arith, omega arith) refl,
  refl,
)

-- 1900 had no 29 February, 2000 had one, and its last day was the 366th
pub centuries : (day_at 365_936_153 ≡ ymd (pos 1900) 2 28) × (day_at 365_936_154 ≡ ymd (pos 1900) 3 1) × (day_at 365_972_678 ≡ ymd (pos 2000) 2 29)
    × (ordinal_at 365_972_984 ≡ 366)
centuries =
    let last : day_at 365_972_984 ≡ ymd (pos 2000) 12 31 = placed (pos 2000) 12 31 365_972_984 1_001_999 refl (omega arith, omega arith) (omega arith, omega arith) refl in (
      placed (pos 1900) 2 28 365_936_153 1_001_899 refl (omega arith, omega arith) (omega arith, omega arith) refl,
      placed (pos 1900) 3 1 365_936_154 1_001_899 refl (omega arith, omega arith) (omega arith, omega arith) refl,
      placed (pos 2000) 2 29 365_972_678 1_001_999 refl (omega arith, omega arith) (omega arith, omega arith) refl,
      omega (arith, ordinal_at-is 365_972_984 1_001_999 (pos 2000) refl (rw last refl)),
    )

-- 2021-01-03 is 2020-W53-7, 2008-12-29 is 2009-W01-1, 2010-01-03 is 2009-W53-7
pub iso_days : (iso_year_at 365_980_292 ≡ pos 2020) × (iso_week_at 365_980_292 ≡ 53) × (weekday_at 365_980_292 ≡ 6)
    × (iso_year_at 365_975_904 ≡ pos 2009) × (iso_week_at 365_975_904 ≡ 1) × (weekday_at 365_975_904 ≡ 0)
    × (iso_year_at 365_976_274 ≡ pos 2009) × (iso_week_at 365_976_274 ≡ 53) × (weekday_at 365_976_274 ≡ 6)
iso_days =
    let one = iso_at 365_980_292 1_002_019 (pos 2020) refl (omega arith) (omega arith) in
    let two = iso_at 365_975_904 1_002_008 (pos 2009) refl (omega arith) (omega arith) in
    let three = iso_at 365_976_274 1_002_008 (pos 2009) refl (omega arith) (omega arith) in
    (one.0, one.1, refl, two.0, two.1, refl, three.0, three.1, refl)

-- 2020 has 53 weeks, 2021 has 52
pub iso_years : (weeks_in_year (pos 2020) ≡ 53) × (weeks_in_year (pos 2021) ≡ 52)
iso_years = (omega (arith, weeks_in_year-is (pos 2020) 19 refl (omega arith)), omega (arith, weeks_in_year-is (pos 2021) 20 refl (omega arith)))
