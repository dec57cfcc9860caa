-- Digits of a fixed number, and numbers whose digits are read in two parts.
use Rattle.std.proofs.Common.{◌≡◌, ℕ, ◌&&◌, ◌+◌, ◌-◌, ◌*◌, ◌^◌, ◌≤◌, Bool, true, false, List, length, get_or, take, drop, Option, Some, None, leb, refl, ◌∙◌, arith}
use Rattle.std.specs.Prelude.{option_map}
use Rattle.std.specs.Char.{is_ascii_digit}
use Rattle.std.specs.Str.Parse.{digits_value}
use Rattle.std.proofs.lemmas.Bool.Decides.{nat_tests}
use Rattle.std.proofs.lemmas.List.{take_rest, drop-drop, length-take-le}
use Rattle.std.proofs.lemmas.List.Sums.{prefix_len-le-length}
use Rattle.std.proofs.Math.Seq.{take-add}
use Rattle.parsing_combinator.proofs.Decimal.{value_after, value_append, count_drop}
use Rattle.parsing_combinator.specs.Pieces.{digits, digit_count, Piece}

-- a number with the rest, where a test passes
abbrev pub some_if : Bool → ℕ → List ℕ → Option (ℕ × List ℕ)
some_if true v rest = Some (v, rest)
some_if false v rest = None

-- one digit, by its place
pub digits_one : (bytes : List ℕ) → digits 1 bytes ≡ some_if (leb 1 (length bytes) && is_ascii_digit (get_or bytes 0 0)) (get_or bytes 0 0 - 48) (drop 1 bytes)
unfolding digits
digits_one bytes = grind (arith, nat_tests)

-- two digits, by their places
pub digits_two : (bytes : List ℕ) → digits 2 bytes ≡ some_if (leb 2 (length bytes) && (is_ascii_digit (get_or bytes 0 0) && is_ascii_digit (get_or bytes 1 0))) ((get_or bytes 0 0 - 48) * 10 + (get_or bytes 1 0 - 48)) (drop 2 bytes)
unfolding digits
digits_two bytes = grind (arith, nat_tests)

-- one digit that is there
pub digits_one_there : (bytes : List ℕ) → 1 ≤ length bytes → is_ascii_digit (get_or bytes 0 0) ≡ true → digits 1 bytes ≡ Some (get_or bytes 0 0 - 48, take (length bytes - 1) (drop 1 bytes))
digits_one_there bytes le h =
    let enough : leb 1 (length bytes) ≡ true = grind (arith, nat_tests) in
    digits_one bytes ∙ rw (take_rest bytes 1, enough, h) refl

-- two digits that are there
pub digits_two_there : (bytes : List ℕ) → 2 ≤ length bytes → is_ascii_digit (get_or bytes 0 0) ≡ true → is_ascii_digit (get_or bytes 1 0) ≡ true → digits 2 bytes ≡ Some ((get_or bytes 0 0 - 48) * 10 + (get_or bytes 1 0 - 48), take (length bytes - 2) (drop 2 bytes))
digits_two_there bytes le h k =
    let enough : leb 2 (length bytes) ≡ true = grind (arith, nat_tests) in
    digits_two bytes ∙ rw (take_rest bytes 2, enough, h, k) refl

-- the number of more digits after a number that was read
abbrev pub joined : ℕ → Piece ℕ → Option (ℕ × List ℕ) → Option (ℕ × List ℕ)
joined power piece None = None
joined power piece (Some x) = option_map (λ y. (x.0 * power + y.0, y.1)) (piece x.1)

value_add : (n m : ℕ) (bytes : List ℕ) → m ≤ digit_count (drop n bytes) → digits_value 10 (take (n + m) bytes) ≡ digits_value 10 (take n bytes) * 10 ^ m + digits_value 10 (take m (drop n bytes))
value_add n m bytes le = grind (arith, nat_tests, prefix_len-le-length, take-add, value_append, value_after, length-take-le)

-- so many digits, and then so many more
pub digits_add : (n m : ℕ) (bytes : List ℕ) → digits (n + m) bytes ≡ joined (10 ^ m) (digits m) (digits n bytes)
unfolding digits
digits_add n m bytes = grind (arith, nat_tests, count_drop, value_add, drop-drop)

pub digits_three : (bytes : List ℕ) → digits 3 bytes ≡ joined 10 (digits 1) (digits 2 bytes)
digits_three bytes = digits_add 2 1 bytes

pub digits_four : (bytes : List ℕ) → digits 4 bytes ≡ joined 100 (digits 2) (digits 2 bytes)
digits_four bytes = digits_add 2 2 bytes

pub digits_six : (bytes : List ℕ) → digits 6 bytes ≡ joined 100 (digits 2) (digits 4 bytes)
digits_six bytes = digits_add 4 2 bytes

pub digits_eight : (bytes : List ℕ) → digits 8 bytes ≡ joined 10_000 (digits 4) (digits 4 bytes)
digits_eight bytes = digits_add 4 4 bytes

pub digits_nine : (bytes : List ℕ) → digits 9 bytes ≡ joined 10 (digits 1) (digits 8 bytes)
digits_nine bytes = digits_add 8 1 bytes
