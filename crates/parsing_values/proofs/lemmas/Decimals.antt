-- Decimal digits of fixed width: how many they are, and the number that they write.
use Rattle.std.proofs.Common.{◌≡◌, ℕ, zero, suc, ◌+◌, ◌*◌, ◌/◌, ◌%◌, ◌^◌, ◌<◌, ◌≤◌, true, List, [], ◌∷◌, get_or, length, refl, ◌∙◌, arith, length-append}
use Rattle.std.specs.Char.{is_ascii_digit, digit_value}
use Rattle.std.specs.Str.Parse.{digits_value}
use Rattle.std.proofs.lemmas.Bool.Decides.{nat_tests}
use Rattle.std.proofs.lemmas.Int.Digits.{digits_value_push}
use Rattle.std.proofs.lemmas.List.{get_or_past}
use Rattle.std.proofs.lemmas.List.Folds.{prefix_len-append}
use Rattle.std.proofs.lemmas.List.Sums.{prefix_len_passes}
use Rattle.parsing_combinator.specs.Pieces.{digit_count}
use Rattle.parsing_combinator.proofs.Decimal.{power_next}
use Rattle.parsing_values.specs.Decimal.{decimal}

pub as_digit : (x : ℕ) → x ≤ 9 → (is_ascii_digit (48 + x) ≡ true) × (digit_value (48 + x) ≡ x)
as_digit x h = grind (arith, nat_tests)

pub decimal_length : (width n : ℕ) → length (decimal width n) ≡ width
unfolding decimal
decimal_length zero n = refl
decimal_length (suc width) n = omega (arith, length-append (decimal width (n / 10)) ((48 + n % 10) ∷ []), decimal_length width (n / 10))

pub decimal_count : (width n : ℕ) → digit_count (decimal width n) ≡ width
unfolding decimal
decimal_count zero n = refl
decimal_count (suc width) n =
    let prefix = decimal width (n / 10) in
    let digit = as_digit (n % 10) (omega arith) in
    let one : digit_count ((48 + n % 10) ∷ []) ≡ 1 = rw digit.0 refl in
    let counted = decimal_count width (n / 10) in
    grind (arith, nat_tests, decimal_length, prefix_len-append)

below : (n p q : ℕ) → q ≡ p * 10 → n < q → n / 10 < p
below n p q e h = omega arith

pub decimal_value : (width n : ℕ) → n < 10 ^ width → digits_value 10 (decimal width n) ≡ n
unfolding decimal
decimal_value zero n h = let one : 10 ^ 0 ≡ 1 = refl in omega (arith, h, one)
decimal_value (suc width) n h =
    let digit = as_digit (n % 10) (omega arith) in
    let prefix = decimal_value width (n / 10) (below n (10 ^ width) (10 ^ suc width) (power_next width) h) in
    digits_value_push 10 (decimal width (n / 10)) (48 + n % 10) ∙ omega (arith, digit.1, prefix)

-- digits are bytes
pub digits_fit : (bytes : List ℕ) → digit_count bytes ≡ length bytes → (k : ℕ) → get_or bytes k 0 < 256
digits_fit bytes all k = grind (arith, nat_tests, prefix_len_passes, get_or_past)
