-- The laws of date-times, proved of their definitions.
use Rattle.std.proofs.Common.{◌≡◌, ℕ, ◌*◌, ◌<◌, ◌≤◌, inl, inr, refl, ap, arith, Option, Some, None, Result, Ok, Err, ℤ, pos, true, false, Bool, nat_lt}
use Rattle.std.specs.Prelude.{IsSome, IfSome, ◌↔◌, if◌then◌else◌}
use Rattle.std.specs.Int.{int_div_euclid}
use Rattle.std.proofs.lemmas.Bool.Decides.{nat_tests}
use Rattle.calendar_count.specs.declared.component_range.ComponentRange.{ComponentRange}
use Rattle.calendar_count.proofs.lemmas.Signed.{signed}
use Rattle.calendar.specs.Time.{micro_nanos, milli_nanos, minute_nanos, hour_nanos, millisecond_at, microsecond_at, time_of, time_of_milli, time_of_micro}
use Rattle.datetime_wall.specs.Wall.{second_nanos, day_nanos, cut_to, Shown, IsWallClock, is_wall_clock, instant, wall_at, shown_at}
use Rattle.datetime_wall.proofs.lemmas.WallClocks.{is_wall_clock_yes, is_wall_clock_no, day_of-wall_clock, nanosecond_of-wall_clock}
use Rattle.datetime.specs.Laws.{IsUnit, IsCut, Shows, TimesShowParts, ShowsDay}

-- the one value that a call with an answer can have
pub only_some : {A : Type 0} (r : Option A) (P : A → Type 0) (value : A) → IsSome r → IfSome r P → ((n : A) → P n → n ≡ value) → r ≡ Some value
only_some (Some n) P value good h only = ap Some (only n h)
only_some None P value good h only = absurd (cc)

-- what a clock at an offset shows of an instant has that instant
pub instant_shown : (offset i : ℤ) (m : Shown) → m ≡ record { wall = wall_at offset i; offset = offset } → instant m ≡ i
instant_shown offset i m e = rw e (omega (arith, signed))

pub if_some : {A : Type 0} (test : Bool) (value m : A) → (if test then Some value else None) ≡ Some m → m ≡ value
if_some true value m e = let same = e in cc
if_some false value m e = let same = e in absurd (cc)

pub instant_of_shown : (offset i : ℤ) (m : Shown) → shown_at offset i ≡ Some m → instant m ≡ i
instant_of_shown offset i m e = instant_shown offset i m (if_some (is_wall_clock (wall_at offset i)) (record { wall = wall_at offset i; offset = offset }) m e)

-- a checked call that gives a wall clock under an offset, where the calendar has it, shows the instant
pub shown_by : (r : Option Shown) (offset i moved : ℤ) → (IsSome r ↔ IsWallClock moved) → IfSome r (λ m. m ≡ record { wall = moved; offset = offset }) → moved ≡ wall_at offset i → r ≡ shown_at offset i
shown_by (Some m) offset i moved some value e = rw (← e, is_wall_clock_yes moved (some.0 refl)) (ap Some value)
shown_by None offset i moved some value e = rw (← e, is_wall_clock_no moved (λ h. let none = some.1 h in cc)) refl

-- ---- cuts, and parts of times of day

cut_of_day : (wall : ℤ) → IsCut day_nanos wall (cut_to day_nanos wall)
cut_of_day wall = record {
  whole = (int_div_euclid wall (pos day_nanos), refl);
  not_after = omega (arith, signed);
  greatest = λ units h. omega (arith, signed, h);
  again = omega (arith, signed);
}

cut_of_hour : (wall : ℤ) → IsCut hour_nanos wall (cut_to hour_nanos wall)
cut_of_hour wall = record {
  whole = (int_div_euclid wall (pos hour_nanos), refl);
  not_after = omega (arith, signed);
  greatest = λ units h. omega (arith, signed, h);
  again = omega (arith, signed);
}

cut_of_minute : (wall : ℤ) → IsCut minute_nanos wall (cut_to minute_nanos wall)
cut_of_minute wall = record {
  whole = (int_div_euclid wall (pos minute_nanos), refl);
  not_after = omega (arith, signed);
  greatest = λ units h. omega (arith, signed, h);
  again = omega (arith, signed);
}

cut_of_second : (wall : ℤ) → IsCut second_nanos wall (cut_to second_nanos wall)
cut_of_second wall = record {
  whole = (int_div_euclid wall (pos second_nanos), refl);
  not_after = omega (arith, signed);
  greatest = λ units h. omega (arith, signed, h);
  again = omega (arith, signed);
}

cut_of_milli : (wall : ℤ) → IsCut milli_nanos wall (cut_to milli_nanos wall)
cut_of_milli wall = record {
  whole = (int_div_euclid wall (pos milli_nanos), refl);
  not_after = omega (arith, signed);
  greatest = λ units h. omega (arith, signed, h);
  again = omega (arith, signed);
}

cut_of_micro : (wall : ℤ) → IsCut micro_nanos wall (cut_to micro_nanos wall)
cut_of_micro wall = record {
  whole = (int_div_euclid wall (pos micro_nanos), refl);
  not_after = omega (arith, signed);
  greatest = λ units h. omega (arith, signed, h);
  again = omega (arith, signed);
}

pub cuts : (unit : ℕ) (wall : ℤ) → IsUnit unit → IsCut unit wall (cut_to unit wall)
cuts unit wall h = elim h [
  | inl e ↦ rw e (cut_of_day wall)
  | inr (inl e) ↦ rw e (cut_of_hour wall)
  | inr (inr (inl e)) ↦ rw e (cut_of_minute wall)
  | inr (inr (inr (inl e))) ↦ rw e (cut_of_second wall)
  | inr (inr (inr (inr (inl e)))) ↦ rw e (cut_of_milli wall)
  | inr (inr (inr (inr (inr e)))) ↦ rw e (cut_of_micro wall)
]

pub shows_day : (day time : ℕ) → time < day_nanos → ShowsDay day time
shows_day day time h = record { day_is = day_of-wall_clock day time h; time_is = nanosecond_of-wall_clock day time h }

-- what is given failed the tests that refuse
passed : (test : Bool) (e : ComponentRange) (rest : Result ℕ ComponentRange) (time : ℕ) → (if test then Err e else rest) ≡ Ok time → (test ≡ false) × (rest ≡ Ok time)
passed true e rest time h = let same = h in absurd (cc)
passed false e rest time h = (refl, h)

given : (value time : ℕ) → ◌≡◌ {A = Result ℕ ComponentRange} (Ok value) (Ok time) → value ≡ time
given value time h = cc

below_test : (greatest n : ℕ) → nat_lt greatest n ≡ false → n ≤ greatest
below_test greatest n h = grind (arith, nat_tests)

pub shows_nanoseconds : (hour minute second part time : ℕ) → time_of hour minute second part ≡ Ok time → Shows hour minute second part time
unfolding time_of
shows_nanoseconds hour minute second part time e =
    let h = passed (nat_lt 23 hour) _ _ time e in
    let m = passed (nat_lt 59 minute) _ _ time h.1 in
    let s = passed (nat_lt 59 second) _ _ time m.1 in
    let n = passed (nat_lt 999_999_999 part) _ _ time s.1 in
    let is = given _ time n.1 in
    let bounds : (hour ≤ 23) × (minute ≤ 59) × (second ≤ 59) × (part ≤ 999_999_999) = (below_test 23 hour h.0, below_test 59 minute m.0, below_test 59 second s.0, below_test 999_999_999 part n.0) in
    record {
      within = omega (arith, is, bounds);
      hour_is = omega (arith, is, bounds);
      minute_is = omega (arith, is, bounds);
      second_is = omega (arith, is, bounds);
      nanosecond_is = omega (arith, is, bounds);
    }

pub shows_milliseconds : (hour minute second part time : ℕ) → time_of_milli hour minute second part ≡ Ok time → Shows hour minute second (part * milli_nanos) time × (millisecond_at time ≡ part)
unfolding time_of_milli
shows_milliseconds hour minute second part time e =
    let h = passed (nat_lt 23 hour) _ _ time e in
    let m = passed (nat_lt 59 minute) _ _ time h.1 in
    let s = passed (nat_lt 59 second) _ _ time m.1 in
    let n = passed (nat_lt 999 part) _ _ time s.1 in
    let is = given _ time n.1 in
    let bounds : (hour ≤ 23) × (minute ≤ 59) × (second ≤ 59) × (part ≤ 999) = (below_test 23 hour h.0, below_test 59 minute m.0, below_test 59 second s.0, below_test 999 part n.0) in (
      record {
        within = omega (arith, is, bounds);
        hour_is = omega (arith, is, bounds);
        minute_is = omega (arith, is, bounds);
        second_is = omega (arith, is, bounds);
        nanosecond_is = omega (arith, is, bounds);
      },
      omega (arith, is, bounds),
    )

pub shows_microseconds : (hour minute second part time : ℕ) → time_of_micro hour minute second part ≡ Ok time → Shows hour minute second (part * micro_nanos) time × (microsecond_at time ≡ part)
unfolding time_of_micro
shows_microseconds hour minute second part time e =
    let h = passed (nat_lt 23 hour) _ _ time e in
    let m = passed (nat_lt 59 minute) _ _ time h.1 in
    let s = passed (nat_lt 59 second) _ _ time m.1 in
    let n = passed (nat_lt 999_999 part) _ _ time s.1 in
    let is = given _ time n.1 in
    let bounds : (hour ≤ 23) × (minute ≤ 59) × (second ≤ 59) × (part ≤ 999_999) = (below_test 23 hour h.0, below_test 59 minute m.0, below_test 59 second s.0, below_test 999_999 part n.0) in (
      record {
        within = omega (arith, is, bounds);
        hour_is = omega (arith, is, bounds);
        minute_is = omega (arith, is, bounds);
        second_is = omega (arith, is, bounds);
        nanosecond_is = omega (arith, is, bounds);
      },
      omega (arith, is, bounds),
    )

pub times_show_parts : (hour minute second part time : ℕ) → TimesShowParts hour minute second part time
times_show_parts hour minute second part time = record {
  nanoseconds = shows_nanoseconds hour minute second part time;
  milliseconds = shows_milliseconds hour minute second part time;
  microseconds = shows_microseconds hour minute second part time;
}
