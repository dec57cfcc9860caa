-- The day that passes a test.
use Rattle.std.proofs.Common.{◌≡◌, ℕ, zero, suc, ◌+◌, ◌<◌, ◌≤◌, inl, inr, Bool, true, false, None, Some, refl, arith, ℤ}
use Rattle.std.proofs.lemmas.Bool.{cases_lt, false_from_ne_true}
use Rattle.std.proofs.lemmas.Bool.Decides.{nat_tests}
use Rattle.std.proofs.lemmas.Int.{ints}
use Rattle.calendar_count.specs.Range.{last_count}
use Rattle.calendar_count.specs.Calendar.{day_at, ymd, IsDay}
use Rattle.calendar_count.specs.TheDay.{first_passing, the_day, is_day_of}
use Rattle.calendar_count.proofs.lemmas.Days.{day_at_same, day_valid}
use Rattle.calendar_count.proofs.CountLemmas.{same_parts}

first_passing-none : (p : ℕ → Bool) (n : ℕ) → ((k : ℕ) → k < n → p k ≡ false) → first_passing p n ≡ None
unfolding first_passing
first_passing-none p zero h = refl
first_passing-none p (suc n) h = rw (first_passing-none p n (λ k low. h k (omega arith)), h n (omega arith)) refl

-- the one count below n that passes
first_passing-one : (p : ℕ → Bool) (n d : ℕ) → d < n → p d ≡ true → ((k : ℕ) → k < n → p k ≡ true → k ≡ d) → first_passing p n ≡ Some d
unfolding first_passing
first_passing-one p zero d low here only = absurd (omega arith)
first_passing-one p (suc n) d low here only =
    elim (cases_lt d n) [
      | inl lt ↦ rw (first_passing-one p n d lt here (λ k small passes. only k (omega arith) passes)) refl
      | inr ge ↦
          let last : n ≡ d = omega arith in
          let before : (k : ℕ) → k < n → p k ≡ false = λ k small. false_from_ne_true (p k) (λ passes. absurd (let same = only k (omega arith) passes in omega arith)) in
          let here_too : p n ≡ true = rw last here in
          rw (first_passing-none p n before, here_too) (rw last refl)
    ]

-- the one day of the calendar that passes
pub the_day-one : (p : ℕ → Bool) (d : ℕ) → d ≤ last_count → p d ≡ true → ((k : ℕ) → k ≤ last_count → p k ≡ true → k ≡ d) → the_day p ≡ Some d
unfolding the_day
the_day-one p d low here only = first_passing-one p (last_count + 1) d (omega arith) here (λ k small passes. only k (omega arith) passes)

-- none passes
pub the_day-none : (p : ℕ → Bool) → ((k : ℕ) → k ≤ last_count → p k ≡ true → ⊥) → the_day p ≡ None
unfolding the_day
the_day-none p h = first_passing-none p (last_count + 1) (λ k low. false_from_ne_true (p k) (h k (omega arith)))

is_day_of-yes : (y : ℤ) (m d n : ℕ) → day_at n ≡ ymd y m d → is_day_of y m d n ≡ true
is_day_of-yes y m d n e = rw e (grind (arith, nat_tests, ints))

is_day_of-is : (y : ℤ) (m d n : ℕ) → is_day_of y m d n ≡ true → day_at n ≡ ymd y m d
is_day_of-is y m d n h = same_parts (day_at n) (ymd y m d) (grind (arith, nat_tests, ints)) (grind (arith, nat_tests)) (grind (arith, nat_tests))

-- the day that a year, a month and a day of the month name
pub the_day-named : (y : ℤ) (m d n : ℕ) → n ≤ last_count → day_at n ≡ ymd y m d → the_day (is_day_of y m d) ≡ Some n
the_day-named y m d n low e =
    the_day-one (is_day_of y m d) n low (is_day_of-yes y m d n e) (λ k small passes. day_at_same k n (rw (is_day_of-is y m d k passes, e) refl))

-- what names no day of the calendar
pub the_day-unnamed : (y : ℤ) (m d : ℕ) → ¬ IsDay y m d → the_day (is_day_of y m d) ≡ None
the_day-unnamed y m d absent =
    the_day-none (is_day_of y m d) (λ k low passes.
    let e = is_day_of-is y m d k passes in
    absent (rw e at (day_valid k low)))
