-- What names a day names no other.
use Rattle.std.proofs.Common.{◌≡◌, ℕ, ◌<◌, ◌∙◌, sym, true, arith, ℤ}
use Rattle.std.proofs.lemmas.Bool.Decides.{nat_tests}
use Rattle.std.proofs.lemmas.Int.{ints}
use Rattle.calendar_count.specs.Range.{IsYear}
use Rattle.calendar_count.specs.Calendar.{day_at, ymd}
use Rattle.calendar_count.specs.TheDay.{is_day_of}
use Rattle.calendar_count.proofs.lemmas.Years.{same_parts, years_since}
use Rattle.calendar_count.proofs.lemmas.Days.{day_at_same, year_bound, iso_year_bound}
use Rattle.calendar_count.proofs.lemmas.Places.{iso_count-is}
use Rattle.parsing_values.specs.NamedDay.{is_ordinal_day, is_iso_day, is_week_day}
use Rattle.parsing_values.specs.DateLaws.{HasOneDay}
use Rattle.parsing_values.proofs.NamedDayLemmas.{week_count, week_day-year}
use Rattle.parsing_values.proofs.ConstructorLemmas.{ordinal_year, ordinal_count, iso_is}

day_is : (y : ℤ) (m d n : ℕ) → is_day_of y m d n ≡ true → day_at n ≡ ymd y m d
day_is y m d n h = same_parts (day_at n) (ymd y m d) (grind (arith, nat_tests, ints)) (grind (arith, nat_tests)) (grind (arith, nat_tests))

pub one_of_month : (y : ℤ) (m d : ℕ) → HasOneDay (is_day_of y m d)
one_of_month y m d j k low high first second = day_at_same j k (day_is y m d j first ∙ sym (day_is y m d k second))

pub one_ordinal : (y : ℤ) (o : ℕ) → HasOneDay (is_ordinal_day y o)
one_ordinal y o j k low high first second =
    let year : IsYear y = rw (ordinal_year y o j first) at (year_bound j low) in
    let e = years_since y year in
    omega (arith, (ordinal_count y o _ j e first).1, (ordinal_count y o _ k e second).1)

pub one_iso : (y : ℤ) (week w : ℕ) → HasOneDay (is_iso_day y week w)
one_iso y week w j k low high first second =
    let f = iso_is y week w j first in
    let s = iso_is y week w k second in
    let year : IsYear y = rw f.0 at (iso_year_bound j low) in
    let e = years_since y year in
    (iso_count-is j _ week w y e f.0 f.1 f.2).0 ∙ sym (iso_count-is k _ week w y e s.0 s.1 s.2).0

pub one_week : (b : ℕ) (y : ℤ) (week w : ℕ) → b < 7 → HasOneDay (is_week_day b y week w)
one_week b y week w small j k low high first second =
    let year : IsYear y = rw (week_day-year b y week w j first) at (year_bound j low) in
    let e = years_since y year in
    omega (arith, (week_count b week w _ j y small e first).0, (week_count b week w _ k y small e second).0)
