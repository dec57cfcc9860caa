-- Numbers that name a day, a time of day and an offset, against the moment of the fields that have them.
use Rattle.std.proofs.Common.{◌≡◌, ℕ, ◌+◌, ◌-◌, ◌*◌, ◌<◌, ◌≤◌, Option, Some, Ok, refl, sym, ap, ◌∙◌, arith, inl, inr, ℤ}
use Rattle.std.specs.Prelude.{pos, ◌+ℤ◌, ◌*ℤ◌, unsigned_abs, IfSome}
use Rattle.std.specs.Option.{unwrap_or}
use Rattle.std.proofs.lemmas.Bool.{cases_lt}
use Rattle.std.proofs.lemmas.Bool.Decides.{nat_tests}
use Rattle.calendar.specs.Time.{time_of, second_nanos}
use Rattle.calendar.specs.UtcOffset.{offset_of_seconds}
use Rattle.calendar_count.specs.Range.{greatest_year, last_count}
use Rattle.calendar_count.specs.Calendar.{IsDay, day_at, ymd, days_in_year}
use Rattle.calendar_count.specs.TheDay.{the_day, is_day_of}
use Rattle.calendar_count.specs.Closed.{days_before_year}
use Rattle.calendar_count.specs.March.{march_days}
use Rattle.calendar_count.proofs.lemmas.Signed.{signed}
use Rattle.calendar_count.proofs.lemmas.Places.{march_day, january_day}
use Rattle.calendar_count.proofs.lemmas.Days.{day_at_same}
use Rattle.calendar_count.proofs.lemmas.Years.{years_since, years_apart}
use Rattle.calendar_count.proofs.lemmas.TheDay.{the_day-named}
use Rattle.datetime_wall.specs.Wall.{wall_clock}
use Rattle.parsing_values.specs.Resolution.{date_of}
use Rattle.parsing_values.specs.declared.fields.Fields.{Fields}
use Rattle.parsing_values.specs.Moment.{day_of_fields, time_of_fields, moment_of}
use Rattle.parsing_values.specs.Numbers.{HaveNumbers}

-- a day of the calendar by its count
record Counted (y : ℤ) (m d : ℕ) : Type 0 where
  count : ℕ
  within : count ≤ last_count
  day_is : day_at count ≡ ymd y m d

later : (y : ℤ) (m d : ℕ) → IsDay y m d → 3 ≤ m → Counted y m d
later y m d h low =
    let n : ℕ = unsigned_abs (y +ℤ pos greatest_year) in
    let e : y +ℤ pos greatest_year ≡ pos n = years_since y h.0 in
    let k : ℕ = march_days m + (d - 1) in
    let count : ℕ = days_before_year (n + 1) + k - 306 in
    let short : k < march_days (m + 1) = grind (arith, nat_tests, h) in
    let most : n < 1_999_999 = omega (arith, signed, h.0) in
    let first : d - 1 + 1 ≡ d = omega (arith, h.3) in
    record {
      count = count;
      within = omega arith;
      day_is = rw first at (march_day count n k m (d - 1) y e (omega arith) refl short low h.2);
    }

earlier : (y : ℤ) (m d : ℕ) → IsDay y m d → m < 3 → Counted y m d
earlier y m d h low =
    let n : ℕ = unsigned_abs (y +ℤ pos greatest_year) in
    let e : y +ℤ pos greatest_year ≡ pos n = years_since y h.0 in
    let k : ℕ = march_days (m + 12) + (d - 1) in
    let count : ℕ = days_before_year n + k - 306 in
    let next = years_apart y n (n + 1) e (omega arith) in
    let in_year : k < days_in_year y = grind (arith, nat_tests, h) in
    let short : k < march_days (m + 12 + 1) = grind (arith, nat_tests, h) in
    let most : n < 1_999_999 = omega (arith, signed, h.0) in
    let first : d - 1 + 1 ≡ d = omega (arith, h.3) in
    let month : m + 12 - 12 ≡ m = omega arith in
    record {
      count = count;
      within = omega (arith, next);
      day_is = rw (month, first) at (january_day count n k (m + 12) (d - 1) y e (omega arith) (omega (arith, next)) refl short (omega (arith, h.1)) (omega arith));
    }

counted : (y : ℤ) (m d : ℕ) → IsDay y m d → Counted y m d
counted y m d h = elim (cases_lt m 3) [ inl lt ↦ earlier y m d h lt | inr le ↦ later y m d h le ]

-- the day of a count
day_is : (y : ℤ) (m d n : ℕ) → n ≤ last_count → day_at n ≡ ymd y m d → unwrap_or (the_day (is_day_of y m d)) 0 ≡ n
day_is y m d n within e = ap (λ (o : Option ℕ). unwrap_or o 0) (the_day-named y m d n within e)

-- a day that is there is found
pub day_found : (y : ℤ) (m d : ℕ) → IsDay y m d → the_day (is_day_of y m d) ≡ Some (unwrap_or (the_day (is_day_of y m d)) 0)
day_found y m d h =
    let c = counted y m d h in
    the_day-named y m d c.count c.within c.day_is ∙ ap (λ (n : ℕ). Some n) (sym (day_is y m d c.count c.within c.day_is))

-- and so is the count of its day
pub day_of_count : (y : ℤ) (m d n : ℕ) → IsDay y m d → day_at n ≡ ymd y m d → unwrap_or (the_day (is_day_of y m d)) 0 ≡ n
day_of_count y m d n h e =
    let c = counted y m d h in
    grind (arith, nat_tests, day_at_same, day_is)

-- it is the one that resolution finds
date_there : (y : ℤ) (m d : ℕ) → IsDay y m d → date_of y m d ≡ Ok (unwrap_or (the_day (is_day_of y m d)) 0)
unfolding date_of
date_there y m d h = grind (arith, nat_tests, day_found)

-- and so is a time of day
time_there : (hour minute second nanosecond : ℕ) → hour ≤ 23 → minute ≤ 59 → second ≤ 59 → nanosecond < second_nanos → time_of hour minute second nanosecond ≡ Ok (((hour * 60 + minute) * 60 + second) * second_nanos + nanosecond)
unfolding time_of
time_there hour minute second nanosecond h m s n = grind (arith, nat_tests)

-- the day and the time of day of fields with these numbers
pub fields_date : (f : Fields) (year month day minute second fraction : ℕ) (offset : ℤ) → HaveNumbers f year month day minute second fraction offset → date_of (pos year) month day ≡ Ok (day_of_fields f)
fields_date f year month day minute second fraction offset h =
    rw (← h.same_year, ← h.same_month, ← h.same_day) (date_there (pos f.year) f.month f.day f.day_is_there)

pub fields_time : (f : Fields) (year month day hour minute second fraction : ℕ) (offset : ℤ) → HaveNumbers f year month day (hour * 60 + minute) second fraction offset → hour ≤ 23 → minute ≤ 59 → fraction < second_nanos → time_of hour minute second fraction ≡ Ok (time_of_fields f)
fields_time f year month day hour minute second fraction offset h low small n = grind (arith, nat_tests, time_there)

pub moment_is : (f : Fields) → record { wall = wall_clock (day_of_fields f) (time_of_fields f); offset = pos 60 *ℤ f.offset } ≡ moment_of f
unfolding moment_of
moment_is f = refl

-- what a function says of the fields that it returns
pub of_fields : (P Q : Fields → Type 0) (result : Option Fields) → IfSome result P → ((f : Fields) → P f → Q f) → IfSome result Q
of_fields P Q result h step = grind (arith, nat_tests)

-- so many minutes are an offset
pub offset_there : (seconds minutes : ℤ) → seconds ≡ minutes *ℤ pos 60 → unsigned_abs minutes ≤ 1559 → offset_of_seconds seconds ≡ Ok (pos 60 *ℤ minutes)
unfolding offset_of_seconds
offset_there seconds minutes e few = grind (arith, nat_tests)

-- the moment of fields by its day, its time of day and its offset
pub moment_of_parts : (f : Fields) (day time : ℕ) (offset : ℤ) → day ≤ last_count → day_at day ≡ ymd (pos f.year) f.month f.day → time ≡ time_of_fields f → offset ≡ pos 60 *ℤ f.offset → record { wall = wall_clock day time; offset = offset } ≡ moment_of f
moment_of_parts f day time offset within is in_time in_offset =
    rw (in_time, in_offset, ← day_is (pos f.year) f.month f.day day within is) (moment_is f)
