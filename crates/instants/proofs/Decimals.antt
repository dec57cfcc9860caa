-- Decimals are read as their numbers, whatever follows them.
use Rattle.std.proofs.Common.{◌≡◌, ℕ, zero, suc, ◌+◌, ◌/◌, ◌%◌, ◌^◌, ◌<◌, true, false, eqb, List, [], ◌∷◌, ◌++◌, length, Some, refl, sym, ◌∙◌, arith}
use Rattle.std.specs.Prelude.{nat_le, ◌==◌}
use Rattle.std.specs.Char.{is_ascii_digit, digit_value}
use Rattle.std.specs.Str.Parse.{digits_value}
use Rattle.std.proofs.lemmas.Bool.Decides.{nat_tests}
use Rattle.std.proofs.lemmas.List.{take_at, drop_at}
use Rattle.std.proofs.lemmas.List.Folds.{prefix_len-append}
use Rattle.std.proofs.lemmas.Int.Digits.{digits_value_push}
use Rattle.base.specs.Bytes.{digit_zero}
use Rattle.parsing_values.specs.Decimal.{decimal}
use Rattle.instants_answers.proofs.Compares.{fits_next}
use Rattle.parsing_values.proofs.lemmas.Decimals.{decimal_length}
use Rattle.parsing_combinator.specs.Pieces.{digits, digit_run, digit_count, fraction, nanoseconds_of}

-- digits alone, and what follows them
digit_count-append : (a b : List ℕ) → digit_count a ≡ length a → digit_count (a ++ b) ≡ length a + digit_count b
digit_count-append a b e =
    let all : eqb (digit_count a) (length a) ≡ true = grind (arith, nat_tests) in
    prefix_len-append is_ascii_digit a b ∙ rw all refl

digit_is : (d : ℕ) → d < 10 → (is_ascii_digit (digit_zero + d) ≡ true) × (digit_value (digit_zero + d) ≡ d)
digit_is d h = (grind (arith, nat_tests), grind (arith, nat_tests))

decimal_count : (width n : ℕ) → digit_count (decimal width n) ≡ width
unfolding decimal
decimal_count zero n = refl
decimal_count (suc width) n =
    let prefix = decimal_count width (n / 10) in
    let long = decimal_length width (n / 10) in
    digit_count-append (decimal width (n / 10)) ((digit_zero + n % 10) ∷ []) (prefix ∙ sym long) ∙ rw ((digit_is (n % 10) (omega arith)).0, long) (omega arith)

decimal_value : (width n : ℕ) → n < 10 ^ width → digits_value 10 (decimal width n) ≡ n
unfolding decimal
decimal_value zero n h = omega arith
decimal_value (suc width) n h =
    digits_value_push 10 (decimal width (n / 10)) (digit_zero + n % 10)
    ∙ rw (decimal_value width (n / 10) (fits_next width n h), (digit_is (n % 10) (omega arith)).1) (omega arith)

pub count_with : (width n : ℕ) (rest : List ℕ) → digit_count (decimal width n ++ rest) ≡ width + digit_count rest
count_with width n rest =
    digit_count-append (decimal width n) rest (decimal_count width n ∙ sym (decimal_length width n)) ∙ rw (decimal_length width n) refl

-- exactly the digits of a decimal
pub decimal_read : (width n : ℕ) (rest : List ℕ) → n < 10 ^ width → digits width (decimal width n ++ rest) ≡ Some (n, rest)
unfolding digits
decimal_read width n rest h =
    let enough : nat_le width (digit_count (decimal width n ++ rest)) ≡ true = rw (count_with width n rest) (grind (arith, nat_tests)) in
    rw (enough, take_at (decimal width n) rest width (decimal_length width n), drop_at (decimal width n) rest width (decimal_length width n), decimal_value width n h) refl

-- all digits that are there
run_read : (width n : ℕ) (rest : List ℕ) → 0 < width → digit_count rest ≡ 0 → digit_run (decimal width n ++ rest) ≡ Some (decimal width n, rest)
unfolding digit_run
run_read width n rest some end =
    let count : digit_count (decimal width n ++ rest) ≡ width = count_with width n rest ∙ omega arith in
    let more : (width == 0) ≡ false = grind (arith, nat_tests) in
    rw (count, more, take_at (decimal width n) rest width (decimal_length width n), drop_at (decimal width n) rest width (decimal_length width n)) refl

-- nine digits are nanoseconds
nine_digits : (n : ℕ) → n < 10 ^ 9 → nanoseconds_of (decimal 9 n) ≡ n
nine_digits n h = rw (decimal_value 9 n h, decimal_length 9 n) (omega arith)

pub fraction_read : (n : ℕ) (rest : List ℕ) → n < 10 ^ 9 → digit_count rest ≡ 0 → fraction (decimal 9 n ++ rest) ≡ Some (n, rest)
unfolding fraction
fraction_read n rest h end = rw (run_read 9 n rest (omega arith) end, nine_digits n h) refl
