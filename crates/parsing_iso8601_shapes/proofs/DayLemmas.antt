-- Days of a year and days of weeks as days of a month.
use Rattle.std.proofs.Common.{◌≡◌, ℕ, ◌+◌, ◌-◌, ◌*◌, ◌/◌, ◌%◌, ◌==◌, ◌⊎◌, Bool, cond, get_or, inl, inr, ◌<◌, ◌≤◌, true, Ok, refl, arith, ℤ, pos, ◌+ℤ◌}
use Rattle.std.specs.Int.{IsInRange}
use Rattle.std.specs.Prelude.{◌&&◌, nat_le, nat_lt}
use Rattle.std.proofs.lemmas.Bool.{agree_below_at, and_parts, cases_lt, le-ltb, lt-ltb}
use Rattle.std.proofs.lemmas.Bool.Decides.{nat_tests}
use Rattle.std.proofs.lemmas.Int.{ints}
use Rattle.calendar_count.specs.Range.{greatest_year, IsYear, IsCount}
use Rattle.calendar_count.specs.Calendar.{is_leap_year, IsDay, days_in_year, day_at, ymd, ordinal_at}
use Rattle.calendar_count.specs.Closed.{days_before_year}
use Rattle.calendar_count.specs.March.{march_days}
use Rattle.calendar_count.specs.Place.{place_count, IsPlace, first_thursday, iso_count}
use Rattle.calendar_count.specs.declared.component_range.ComponentName.TheVariants.{Ordinal, Week}
use Rattle.calendar_count.proofs.lemmas.Places.{place-year, place-ordinal, iso_count-is, iso_count-at, march_day, january_day}
use Rattle.calendar_count.proofs.lemmas.Days.{day_valid}
use Rattle.calendar_count.proofs.lemmas.Years.{ordinal_after}
use Rattle.parsing_values.specs.NamedDay.{is_ordinal_day, is_iso_day, ordinal_date_of, iso_week_date_of}
use Rattle.parsing_values.proofs.NamedDayLemmas.{one_day}
use Rattle.parsing_iso8601_shapes.specs.declared.calendar_days.TheConstants.{DAYS_BEFORE, FIRST_THURSDAYS}
use Rattle.parsing_iso8601.specs.Fractions.{next_if}
use Rattle.parsing_iso8601_shapes.specs.Days.{NamesOrdinal, NamesWeek, first_thursday_of, months_row, year_by}

-- ---- the years of four digits

since : (year : ℕ) → pos year +ℤ pos greatest_year ≡ pos (year + greatest_year)
since year = omega (arith, ints)

within : (year : ℕ) → year ≤ 9999 → IsYear (pos year)
within year four = omega (arith, ints)

pub next_year : (year : ℕ) → days_before_year (year + greatest_year + 1) ≡ days_before_year (year + greatest_year) + days_in_year (pos year)
next_year year = grind (arith, nat_tests)

-- ---- days of a year

place_of : (year ordinal : ℕ) → year ≤ 9999 → IsInRange 1 365 ordinal → IsPlace (pos year) ordinal
place_of year ordinal four range = (within year four, (range.0, let many : 365 ≤ days_in_year (pos year) = grind (arith, nat_tests) in omega (arith, range.1)))

count_is : (year ordinal : ℕ) → place_count (pos year) ordinal ≡ days_before_year (year + greatest_year) + ordinal - 1
unfolding place_count
count_is year ordinal = refl

count_within : (year ordinal : ℕ) → year ≤ 9999 → IsInRange 1 365 ordinal → IsCount (place_count (pos year) ordinal)
count_within year ordinal four range = omega (arith, count_is year ordinal, range.1)

ordinal_named : (year ordinal : ℕ) → year ≤ 9999 → IsInRange 1 365 ordinal → ordinal_date_of (pos year) ordinal ≡ Ok (place_count (pos year) ordinal)
unfolding ordinal_date_of
ordinal_named year ordinal four range =
    let y : ℤ = pos year in
    let place = place_of year ordinal four range in
    let c = place_count y ordinal in
    let here : is_ordinal_day y ordinal c ≡ true = rw (place-year y ordinal place, place-ordinal y ordinal place) (grind (arith, nat_tests, ints)) in
    one_day y Ordinal (is_ordinal_day y ordinal) c place.0 (count_within year ordinal four range) here (λ k within passes.
    let same : ordinal_at k ≡ ordinal = grind (arith, nat_tests, passes) in
    omega (arith, count_is year ordinal, same, ordinal_after k (year + greatest_year) y (since year) (grind (arith, nat_tests, ints, passes))))

-- a day by its count is one that the calendar has
day_there : (y : ℤ) (m d count : ℕ) → IsCount count → day_at count ≡ ymd y m d → IsDay y m d
day_there y m d count within is = rw is at (day_valid count within)

-- after February
march_ordinal : (year ordinal k m d : ℕ) → year ≤ 9999 → IsInRange 1 365 ordinal → ordinal + 305 ≡ days_in_year (pos year) + k → march_days m + d ≡ k → k < march_days (m + 1) → 3 ≤ m → m ≤ 12 → NamesOrdinal year ordinal m (d + 1)
march_ordinal year ordinal k m d four range is day next low high =
    let c = place_count (pos year) ordinal in
    let is_day = march_day c (year + greatest_year) k m d (pos year) (since year) (omega (arith, count_is year ordinal, next_year year, is, range.0)) day next low high in
    record { count = c; named = ordinal_named year ordinal four range; day_is = is_day; there = day_there (pos year) m (d + 1) c (count_within year ordinal four range) is_day }

-- in January or February
january_ordinal : (year ordinal k m d : ℕ) → year ≤ 9999 → IsInRange 1 365 ordinal → ordinal + 305 ≡ k → k < days_in_year (pos year) → march_days m + d ≡ k → k < march_days (m + 1) → 13 ≤ m → m ≤ 14 → NamesOrdinal year ordinal (m - 12) (d + 1)
january_ordinal year ordinal k m d four range is early day next low high =
    let c = place_count (pos year) ordinal in
    let is_day = january_day c (year + greatest_year) k m d (pos year) (since year) (omega (arith, count_is year ordinal, is, range.0)) (omega (arith, count_is year ordinal, next_year year, is, range.0)) day next low high in
    record { count = c; named = ordinal_named year ordinal four range; day_is = is_day; there = day_there (pos year) (m - 12) (d + 1) c (count_within year ordinal four range) is_day }

-- ---- a day of a year split into month and day

-- the place of the month in the table is this one or the next
abbrev pub least_at : ℕ → ℕ → ℕ
least_at length ordinal = months_row length + ordinal / 32 + 1

abbrev pub place_of_month : ℕ → ℕ → ℕ
place_of_month length ordinal = next_if (nat_lt (get_or DAYS_BEFORE (least_at length ordinal + 1) 0) ordinal) (least_at length ordinal)

abbrev pub month_of : ℕ → ℕ → ℕ
month_of length ordinal = place_of_month length ordinal - months_row length

abbrev pub before_month : ℕ → ℕ → ℕ
before_month length ordinal = get_or DAYS_BEFORE (place_of_month length ordinal) 0

-- from 0 on
abbrev pub day_of : ℕ → ℕ → ℕ
day_of length ordinal = ordinal - before_month length ordinal - 1

-- the month from March on, and its day, by the count of a year's length
abbrev is_late : ℕ → ℕ → ℕ → ℕ → Bool
is_late length ordinal m d = (ordinal + 305 == length + (march_days m + d)) && (nat_lt (march_days m + d) (march_days (m + 1)) && nat_le m 12)

abbrev is_early : ℕ → ℕ → ℕ → ℕ → Bool
is_early length ordinal m d = (march_days (m + 12) + d == ordinal + 305) && (nat_lt (ordinal + 305) (march_days (m + 12 + 1)) && (nat_lt (ordinal + 305) length && nat_le 1 m))

abbrev fits : ℕ → ℕ → Bool
fits length ordinal = nat_lt (before_month length ordinal) ordinal && (nat_lt (month_of length ordinal) 13 && nat_lt (day_of length ordinal) 31)

abbrev splits : ℕ → ℕ → Bool
splits length ordinal = cond (nat_lt 0 ordinal) (fits length ordinal && cond (nat_lt (month_of length ordinal) 3) (is_early length ordinal (month_of length ordinal) (day_of length ordinal)) (is_late length ordinal (month_of length ordinal) (day_of length ordinal))) true

split_at : (length ordinal : ℕ) → (length ≡ 365) ⊎ (length ≡ 366) → ordinal < 366 → splits length ordinal ≡ true
split_at length ordinal (inl e) lt = rw e (agree_below_at (splits 365) (λ _. true) 366 ordinal refl lt)
split_at length ordinal (inr e) lt = rw e (agree_below_at (splits 366) (λ _. true) 366 ordinal refl lt)

abbrev length_by : Bool → ℕ
length_by b = cond b 366 365

by_leap : (b : Bool) → (length_by b ≡ 365) ⊎ (length_by b ≡ 366)
by_leap b = grind (arith, nat_tests)

late : (length ordinal m d : ℕ) → is_late length ordinal m d ≡ true → (ordinal + 305 ≡ length + (march_days m + d)) × (march_days m + d < march_days (m + 1)) × (m ≤ 12)
late length ordinal m d e = (grind (arith, nat_tests, e), grind (arith, nat_tests, e), grind (arith, nat_tests, e))

early : (length ordinal m d : ℕ) → is_early length ordinal m d ≡ true → (march_days (m + 12) + d ≡ ordinal + 305) × (ordinal + 305 < march_days (m + 12 + 1)) × (ordinal + 305 < length) × (1 ≤ m)
early length ordinal m d e = (grind (arith, nat_tests, e), grind (arith, nat_tests, e), grind (arith, nat_tests, e), grind (arith, nat_tests, e))

named_by : (year ordinal m d length : ℕ) → length ≡ days_in_year (pos year) → year ≤ 9999 → IsInRange 1 365 ordinal → cond (nat_lt m 3) (is_early length ordinal m d) (is_late length ordinal m d) ≡ true → NamesOrdinal year ordinal m (d + 1)
named_by year ordinal m d length is four range e = elim (cases_lt m 3) [
  | inl small ↦
      let h = early length ordinal m d (rw (lt-ltb m 3 small) at e) in
      let same : m + 12 - 12 ≡ m = omega arith in
      rw same at (january_ordinal year ordinal (ordinal + 305) (m + 12) d four range refl (omega (arith, h.2, is)) h.0 h.1 (omega (arith, h.3)) (omega (arith, small)))
  | inr large ↦
      let h = late length ordinal m d (rw (le-ltb m 3 large) at e) in
      march_ordinal year ordinal (march_days m + d) m d four range (omega (arith, h.0, is)) refl h.1 large h.2
]

-- what the table has of a day of a year
pub record Split (length ordinal : ℕ) : Type 0 where
  pub before : before_month length ordinal < ordinal
  pub month : month_of length ordinal ≤ 12
  pub day : day_of length ordinal ≤ 30
  pub splits : cond (nat_lt (month_of length ordinal) 3) (is_early length ordinal (month_of length ordinal) (day_of length ordinal)) (is_late length ordinal (month_of length ordinal) (day_of length ordinal)) ≡ true

pub split_of : (length ordinal : ℕ) → (length ≡ 365) ⊎ (length ≡ 366) → IsInRange 1 365 ordinal → Split length ordinal
split_of length ordinal either range =
    let month = month_of length ordinal in
    let day = day_of length ordinal in
    let all = and_parts (fits length ordinal) (cond (nat_lt month 3) (is_early length ordinal month day) (is_late length ordinal month day)) (rw (lt-ltb 0 ordinal (omega (arith, range.0))) at (split_at length ordinal either (omega (arith, range.1)))) in
    grind (arith, nat_tests)

-- the two look-ups find the place of the month
pub looked_up : (length ordinal months first place before : ℕ) → months ≡ months_row length → first ≡ get_or DAYS_BEFORE (months + ordinal / 32 + 1 + 1) 0 → place ≡ next_if (nat_lt first ordinal) (months + ordinal / 32 + 1) → before ≡ get_or DAYS_BEFORE place 0
    → (before ≡ before_month length ordinal) × (place - months ≡ month_of length ordinal)
looked_up length ordinal months first place before row first_is place_is before_is = grind (arith, nat_tests)

pub length_of : (year : ℕ) → (days_in_year (pos year) ≡ 365) ⊎ (days_in_year (pos year) ≡ 366)
length_of year = by_leap (is_leap_year (pos year))

pub ordinal_split : (year ordinal : ℕ) → year ≤ 9999 → IsInRange 1 365 ordinal → NamesOrdinal year ordinal (month_of (days_in_year (pos year)) ordinal) (ordinal - before_month (days_in_year (pos year)) ordinal)
ordinal_split year ordinal four range =
    let length : ℕ = days_in_year (pos year) in
    let s = split_of length ordinal (length_of year) range in
    grind (arith, nat_tests, named_by)

-- ---- days of weeks

week_named : (year week weekday : ℕ) → year ≤ 9999 → 1 ≤ week → weekday ≤ 6 → first_thursday (days_before_year (year + greatest_year)) + 7 * (week - 1) < days_before_year (year + greatest_year) + days_in_year (pos year) → IsCount (iso_count (days_before_year (year + greatest_year)) week weekday) → iso_week_date_of (pos year) week weekday ≡ Ok (iso_count (days_before_year (year + greatest_year)) week weekday)
unfolding iso_week_date_of
week_named year week weekday four some few in_year bound =
    let y : ℤ = pos year in
    let n : ℕ = year + greatest_year in
    let c = iso_count (days_before_year n) week weekday in
    let at = iso_count-at n week weekday y (since year) some (omega arith) in_year in
    one_day y Week (is_iso_day y week weekday) c (within year four) bound (rw (at.0, at.1, at.2) (grind (arith, nat_tests, ints))) (λ k within passes.
    (iso_count-is k n week weekday y (since year) (grind (arith, nat_tests, ints, passes)) (grind (arith, nat_tests, passes)) (grind (arith, nat_tests, passes))).0)

abbrev thursday_there : ℕ → Bool
thursday_there k = (get_or FIRST_THURSDAYS k 0 == first_thursday_of k + 48)

pub thursday_at : (year : ℕ) → get_or FIRST_THURSDAYS (year % 400) 0 ≡ first_thursday_of year + 48
thursday_at year =
    let h = agree_below_at thursday_there (λ _. true) 400 (year % 400) refl (omega arith) in
    grind (arith, nat_tests)

-- the same by the pairs of its digits
pub thursday_by : (century last_two : ℕ) → last_two ≤ 99 → get_or FIRST_THURSDAYS (century % 4 * 100 + last_two) 0 ≡ first_thursday_of (year_by century last_two) + 48
thursday_by century last_two few =
    let place : year_by century last_two % 400 ≡ century % 4 * 100 + last_two = omega arith in
    rw place at (thursday_at (year_by century last_two))

pub week_ordinal : (year week weekday ordinal : ℕ) → year ≤ 9999 → 1 ≤ week → weekday ≤ 6 → IsInRange 1 365 ordinal → first_thursday_of year + 7 * week ≤ 371 → first_thursday_of year + 7 * week + weekday ≡ ordinal + 9 → NamesWeek year week weekday ordinal
week_ordinal year week weekday ordinal four some few range thursday is = grind (arith, nat_tests, count_is, week_named, ordinal_named)
