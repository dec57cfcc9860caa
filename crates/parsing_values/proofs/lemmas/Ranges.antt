-- What it says of numbers that they name a date, a time of day or an offset.
use Rattle.std.proofs.Common.{◌≡◌, ℕ, ◌≤◌, Bool, true, false, cond, Result, Ok, Err, arith, ℤ}
use Rattle.std.specs.Option.{ok_or}
use Rattle.std.proofs.lemmas.Bool.Decides.{nat_tests}
use Rattle.calendar.specs.Time.{time_of}
use Rattle.calendar.specs.UtcOffset.{offset_of}
use Rattle.calendar_count.specs.Calendar.{is_year}
use Rattle.calendar_count.specs.TheDay.{the_day, is_day_of}
use Rattle.calendar_count.specs.declared.component_range.ComponentRange.{ComponentRange}
use Rattle.calendar_count.proofs.lemmas.TheDay.{the_day-unnamed}
use Rattle.parsing_values.specs.Resolution.{date_of, permitted_time_of, leap_time_of, signed_offset_of}

-- what stands after a test that refuses
pub past : {A E : Type 0} (b : Bool) (e : E) (r : Result A E) (x : A) → cond b (Err e) r ≡ Ok x → (b ≡ false) × (r ≡ Ok x)
past b e r x h = grind (arith, nat_tests)

-- a test passed, and what stands after it is there
pub in_both : {A E : Type 0} (b : Bool) (r : Result A E) (e : E) (x : A) → cond b r (Err e) ≡ Ok x → (b ≡ true) × (r ≡ Ok x)
in_both b r e x h = grind (arith, nat_tests)

-- ---- dates

a_day : (y : ℤ) (m d day : ℕ) (e : ComponentRange) → ok_or (the_day (is_day_of y m d)) e ≡ Ok day → (1 ≤ d) × (d ≤ 31)
a_day y m d day e h = grind (arith, nat_tests, the_day-unnamed)

pub record DateRanges (y : ℤ) (m d day : ℕ) : Type 0 where
  pub least_month : 1 ≤ m
  pub greatest_month : m ≤ 12
  pub least_day : 1 ≤ d
  pub greatest_day : d ≤ 31
  pub in_year : is_year y ≡ true

pub date_ranges : (y : ℤ) (m d day : ℕ) → date_of y m d ≡ Ok day → DateRanges y m d day
unfolding date_of
date_ranges y m d day h = grind (arith, nat_tests, a_day)

-- ---- times of day

pub record TimeRanges (h m s : ℕ) : Type 0 where
  pub hour : h ≤ 23
  pub minute : m ≤ 59
  pub second : s ≤ 60

pub time_ranges : (h m s n time : ℕ) → leap_time_of h m s n ≡ Ok time → TimeRanges h m s
unfolding permitted_time_of time_of
time_ranges h m s n time e = record { hour = grind (arith, nat_tests, e); minute = grind (arith, nat_tests, e); second = grind (arith, nat_tests, e) }

-- ---- offsets

pub record OffsetRanges (h m : ℕ) : Type 0 where
  pub hours : h ≤ 25
  pub minutes : m ≤ 59

pub offset_ranges : (is_negative : Bool) (hours minutes : ℕ) (seconds : ℤ) → signed_offset_of is_negative hours minutes ≡ Ok seconds → OffsetRanges hours minutes
unfolding signed_offset_of offset_of
offset_ranges is_negative hours minutes seconds e = grind (arith, nat_tests)
