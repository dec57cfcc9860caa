-- What digits print, and zeros at an end.
use Rattle.std.proofs.Common.{arith, ℕ, ◌≡◌, ◌+◌, ◌∷◌, [], ◌++◌, ◌/◌, ◌%◌, ◌<◌, List, true, false, refl, ap, ◌==◌}
use Rattle.std.proofs.lemmas.Bool.Decides.{nat_tests}
use Rattle.std.proofs.lemmas.List.Folds.{list_all-append}
use Rattle.std.specs.List.{list_all}
use Rattle.std.specs.Fmt.{decimal}
use Rattle.std.proofs.lemmas.Fmt.{decimal_digit}
use Rattle.calendar_count.specs.Digits.{two_digits, three_digits, nine_digits, without_zeros}

pub decimal_two : (n : ℕ) → n < 100 → decimal (n / 10) ++ decimal (n % 10) ≡ two_digits n
decimal_two n h = rw (decimal_digit (n / 10) (omega arith), decimal_digit (n % 10) (omega arith))

pub decimal_three : (n : ℕ) → n < 1000 → decimal (n / 100) ++ (decimal (n / 10 % 10) ++ decimal (n % 10)) ≡ three_digits n
decimal_three n h = rw (decimal_digit (n / 100) (omega arith), decimal_digit (n / 10 % 10) (omega arith), decimal_digit (n % 10) (omega arith))

-- digits before one that is not zero all stay
pub without_zeros-append : (xs ys : List ℕ) → list_all (λ d. d == 48) ys ≡ false → without_zeros (xs ++ ys) ≡ xs ++ without_zeros ys
unfolding without_zeros
without_zeros-append [] ys h = refl
without_zeros-append (x ∷ xs) ys h =
    let some : list_all (λ d. d == 48) (xs ++ ys) ≡ false = grind (arith, list_all-append (λ d. d == 48) xs ys) in
    rw some (ap (λ r. x ∷ r) (without_zeros-append xs ys h))

-- and zeros after the first digit all go
pub without_zeros_of_zeros : (x : ℕ) (xs ys : List ℕ) → list_all (λ d. d == 48) ys ≡ true → without_zeros ((x ∷ xs) ++ ys) ≡ without_zeros (x ∷ xs)
unfolding without_zeros
without_zeros_of_zeros x [] ys h = rw h refl
without_zeros_of_zeros x (y ∷ xs) ys h =
    let same : list_all (λ d. d == 48) ((y ∷ xs) ++ ys) ≡ list_all (λ d. d == 48) (y ∷ xs) = grind (arith, list_all-append (λ d. d == 48) (y ∷ xs) ys) in
    rw (same, without_zeros_of_zeros y xs ys h) refl

not_zeros : (n : ℕ) → 0 < n → n < 1000 → list_all (λ d. d == 48) (three_digits n) ≡ false
not_zeros n h k = grind (arith, nat_tests)

zeros : (n : ℕ) → n ≡ 0 → list_all (λ d. d == 48) (three_digits n) ≡ true
zeros n h = rw h refl

-- a number below a thousand, by the last of its digits that is not zero
pub last_ones : (n : ℕ) → n < 1000 → 0 < n % 10 → decimal (n / 100) ++ (decimal (n / 10 % 10) ++ decimal (n % 10)) ≡ without_zeros (three_digits n)
unfolding without_zeros
last_ones n h k = rw (decimal_three n h) (grind (arith, nat_tests))

pub last_tens : (n : ℕ) → n < 1000 → n % 10 ≡ 0 → 0 < n / 10 % 10 → decimal (n / 100) ++ decimal (n / 10 % 10) ≡ without_zeros (three_digits n)
unfolding without_zeros
last_tens n h zero k = rw (decimal_digit (n / 100) (omega arith), decimal_digit (n / 10 % 10) (omega arith)) (grind (arith, nat_tests))

pub last_hundreds : (n : ℕ) → n < 1000 → n % 10 ≡ 0 → n / 10 % 10 ≡ 0 → decimal (n / 100) ≡ without_zeros (three_digits n)
unfolding without_zeros
last_hundreds n h zero k = rw (decimal_digit (n / 100) (omega arith)) (grind (arith, nat_tests))

-- nanoseconds, by the last of the groups of three digits that is not zero
pub fraction_nanos : (n : ℕ) → 0 < n % 1000 → three_digits (n / 1_000_000) ++ (three_digits (n / 1000 % 1000) ++ without_zeros (three_digits (n % 1000))) ≡ without_zeros (nine_digits n)
fraction_nanos n h =
    rw (without_zeros-append (three_digits (n / 1_000_000) ++ three_digits (n / 1000 % 1000)) (three_digits (n % 1000)) (not_zeros (n % 1000) h (omega arith))) refl

zeros_after : (n : ℕ) (xs ys : List ℕ) → list_all (λ d. d == 48) ys ≡ true → without_zeros ((three_digits n ++ xs) ++ ys) ≡ without_zeros (three_digits n ++ xs)
zeros_after n xs ys h =
    without_zeros_of_zeros (48 + n / 100) ((48 + n / 10 % 10) ∷ (48 + n % 10) ∷ xs) ys h

pub fraction_micros : (n : ℕ) → n % 1000 ≡ 0 → 0 < n / 1000 % 1000 → three_digits (n / 1_000_000) ++ without_zeros (three_digits (n / 1000 % 1000)) ≡ without_zeros (nine_digits n)
fraction_micros n none h =
    let micros = three_digits (n / 1000 % 1000) in
    rw (zeros_after (n / 1_000_000) micros (three_digits (n % 1000)) (zeros (n % 1000) none), without_zeros-append (three_digits (n / 1_000_000)) micros (not_zeros (n / 1000 % 1000) h (omega arith))) refl

pub fraction_millis : (n : ℕ) → n % 1000 ≡ 0 → n / 1000 % 1000 ≡ 0 → without_zeros (three_digits (n / 1_000_000)) ≡ without_zeros (nine_digits n)
fraction_millis n none none_either =
    let micros = three_digits (n / 1000 % 1000) in
    rw (zeros_after (n / 1_000_000) micros (three_digits (n % 1000)) (zeros (n % 1000) none), zeros_after (n / 1_000_000) [] micros (zeros (n / 1000 % 1000) none_either)) refl
