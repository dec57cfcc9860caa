-- The numbers that are read name the day, the time of day and the offset.
use Rattle.std.proofs.Common.{◌≡◌, ℕ, zero, suc, ◌+◌, ◌*◌, ◌/◌, ◌%◌, ◌<◌, ◌≤◌, true, false, Ok, refl, ap, ◌∙◌, arith, ℤ, pos, negsuc, neg_ℤ, unsigned_abs, int_lt}
use Rattle.std.specs.Prelude.{nat_lt, ◌≤ℤ◌}
use Rattle.std.specs.Int.{is_in_range}
use Rattle.std.proofs.lemmas.Bool.Decides.{nat_tests}
use Rattle.std.proofs.lemmas.Int.{ints}
use Rattle.calendar_count.specs.Calendar.{day_at, is_year}
use Rattle.calendar_count.specs.Range.{IsCount}
use Rattle.calendar_count.proofs.lemmas.Days.{day_valid}
use Rattle.calendar_count.proofs.lemmas.TheDay.{the_day-named}
use Rattle.calendar.specs.Time.{time_of, second_nanos, day_nanos}
use Rattle.calendar.specs.UtcOffset.{IsClockOffset, with_sign_of, offset_seconds, offset_of}
use Rattle.instants_answers.proofs.Lines.{HasYear}
use Rattle.parsing_values.specs.Resolution.{date_of, signed_offset_of}

nonnegative : (y : ℤ) → pos 0 ≤ℤ y → pos (unsigned_abs y) ≡ y
nonnegative y h = omega (arith, ints)

pub day_named : (c : ℕ) → IsCount c → HasYear (day_at c) → date_of (pos (unsigned_abs (day_at c).year)) (day_at c).month (day_at c).day ≡ Ok c
unfolding date_of
day_named c count h =
    let t = day_at c in
    let valid = day_valid c count in
    let year = nonnegative t.year h.0 in
    let in_month : is_in_range 1 12 t.month ≡ true = grind (arith, nat_tests) in
    let in_years : is_year t.year ≡ true = grind (arith, nat_tests, ints) in
    rw (year, in_month, in_years, the_day-named t.year t.month t.day c count refl) refl

pub time_named : (n : ℕ) → n < day_nanos → time_of (n / second_nanos / 3600) (n / second_nanos / 60 % 60) (n / second_nanos % 60) (n % second_nanos) ≡ Ok n
unfolding time_of
time_named n h =
    let s = n / second_nanos in
    let hour : nat_lt 23 (s / 3600) ≡ false = grind (arith, nat_tests) in
    let minute : nat_lt 59 (s / 60 % 60) ≡ false = grind (arith, nat_tests) in
    let second : nat_lt 59 (s % 60) ≡ false = grind (arith, nat_tests) in
    let nanosecond : nat_lt 999_999_999 (n % second_nanos) ≡ false = grind (arith, nat_tests) in
    rw (hour, minute, second, nanosecond) (ap (λ (k : ℕ). Ok k) (let e : (s / 3600 * 3600 + s / 60 % 60 * 60 + s % 60) * second_nanos + n % second_nanos ≡ n = omega arith in e))

-- no seconds have no sign
none_signed : (z : ℤ) → with_sign_of z (pos 0) ≡ pos 0
none_signed (pos zero) = refl
none_signed (pos (suc n)) = refl
none_signed (negsuc n) = refl

size_below : (m : ℕ) → unsigned_abs (neg_ℤ (pos m)) ≡ m
size_below zero = refl
size_below (suc m) = refl

both_above : (h m : ℕ) → with_sign_of (pos h) (pos m) ≡ pos m
both_above zero m = refl
both_above (suc h) m = refl

both_below : (h m : ℕ) → with_sign_of (neg_ℤ (pos h)) (neg_ℤ (pos m)) ≡ neg_ℤ (pos m)
both_below zero m = refl
both_below (suc h) m = ap (λ (k : ℕ). neg_ℤ (pos k)) (size_below m)

-- hours and minutes under one sign
east : (h m : ℕ) → h ≤ 23 → m < 60 → signed_offset_of false h m ≡ Ok (pos (h * 3600 + m * 60))
unfolding signed_offset_of offset_of
east h m few low =
    let hours : nat_lt 25 h ≡ false = grind (arith, nat_tests) in
    let minutes : nat_lt 59 m ≡ false = grind (arith, nat_tests) in
    let seconds : offset_seconds (pos h) (pos m) (pos 0) ≡ pos (h * 3600 + m * 60) = rw (both_above h m, none_signed (pos m), none_signed (pos h)) (omega (arith, ints)) in
    rw (hours, minutes) (ap (λ (z : ℤ). Ok z) seconds)

west : (h m : ℕ) → h ≤ 23 → m < 60 → signed_offset_of true h m ≡ Ok (neg_ℤ (pos (h * 3600 + m * 60)))
unfolding signed_offset_of offset_of
west h m few low =
    let hours : nat_lt 25 (unsigned_abs (neg_ℤ (pos h))) ≡ false = rw (size_below h) (grind (arith, nat_tests)) in
    let minutes : nat_lt 59 (unsigned_abs (neg_ℤ (pos m))) ≡ false = rw (size_below m) (grind (arith, nat_tests)) in
    let seconds : offset_seconds (neg_ℤ (pos h)) (neg_ℤ (pos m)) (pos 0) ≡ neg_ℤ (pos (h * 3600 + m * 60)) = rw (both_below h m, none_signed (neg_ℤ (pos m)), none_signed (neg_ℤ (pos h))) (omega (arith, ints)) in
    rw (hours, minutes) (ap (λ (z : ℤ). Ok z) seconds)

-- the hours and minutes of an offset of whole minutes are all of it
all_minutes : (a : ℕ) → a % 60 ≡ 0 → a / 3600 * 3600 + a / 60 % 60 * 60 ≡ a
all_minutes a h = omega arith

pub offset_named : (o : ℤ) → IsClockOffset o → signed_offset_of (int_lt o (pos 0)) (unsigned_abs o / 3600) (unsigned_abs o / 60 % 60) ≡ Ok o
offset_named (pos a) h =
    let few = h.within_a_day in
    let positive : int_lt (pos a) (pos 0) ≡ false = grind (arith, nat_tests) in
    rw positive (east (a / 3600) (a / 60 % 60) (omega arith) (omega arith) ∙ ap (λ (k : ℕ). Ok (pos k)) (all_minutes a h.whole_minutes))
offset_named (negsuc a) h =
    let few = h.within_a_day in
    west (suc a / 3600) (suc a / 60 % 60) (omega arith) (omega arith) ∙ ap (λ (k : ℕ). Ok (neg_ℤ (pos k))) (all_minutes (suc a) h.whole_minutes)
