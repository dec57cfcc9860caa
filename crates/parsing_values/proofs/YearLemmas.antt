-- The four digits of a year.
use Rattle.std.proofs.Common.{◌≡◌, ℕ, ◌+◌, ◌-◌, ◌*◌, ◌^◌, ◌<◌, ◌≤◌, List, get_or, length, take, drop, w32, ap, ◌∙◌, arith, Some}
use Rattle.std.specs.Prelude.{IsTrue, nat_lt}
use Rattle.std.specs.Int.{from_le_bytes, from_be_bytes}
use Rattle.std.specs.Char.{is_ascii_digit}
use Rattle.std.specs.Str.Parse.{digits_value}
use Rattle.std.proofs.lemmas.Bool.Decides.{nat_tests}
use Rattle.std.proofs.lemmas.List.{length-take-le, length-drop}
use Rattle.std.proofs.lemmas.List.Sums.{prefix_len_passes, prefix_len-le-length}
use Rattle.std.proofs.lemmas.Nat.{le_bytes_4}
use Rattle.parsing_combinator.specs.Pieces.{digits, digit_count}
use Rattle.parsing_combinator.specs.Places.{HasDigit, HasPair}
use Rattle.parsing_combinator.proofs.AtPlaces.{two_there, places_two_on, four_there}
use Rattle.parsing_combinator.proofs.Decimal.{digit_here, count_prefix}
use Rattle.parsing_combinator.proofs.FractionDigits.{Read, digits_read}
use Rattle.parsing_values.specs.Decimal.{decimal}
use Rattle.parsing_values.specs.Digits.{four_digits, AreFourDigits}
use Rattle.parsing_values.proofs.lemmas.Decimals.{digits_fit}

-- ---- of a number

pub of_number : (n digits : ℕ) → n ≤ 9999 → digits < 2 ^ 32 → digits ≡ from_le_bytes w32 (decimal 4 n) → AreFourDigits digits × (digits_value 10 (four_digits digits) ≡ n)
unfolding decimal
of_number n digits h fits is = grind (arith, nat_tests)

-- ---- at a place of a text

module _ (text : List ℕ) (place : ℕ) (high : HasPair text place) (low : HasPair text (place + 2)) where
  abbrev high_two : ℕ
  high_two = (get_or text place 0 - 48) * 10 + (get_or text (place + 1) 0 - 48)

  abbrev low_two : ℕ
  low_two = (get_or text (place + 2) 0 - 48) * 10 + (get_or text (place + 3) 0 - 48)

  four : digits 4 (drop place text) ≡ Some (high_two * 100 + low_two, drop (place + 4) text)
  four = four_there text place high_two low_two (two_there text place high) (places_two_on text place low)

  read : Read 4 (drop place text) (high_two * 100 + low_two) (drop (place + 4) text)
  read = digits_read 4 (drop place text) (high_two * 100 + low_two) (drop (place + 4) text) four

  long : length (take 4 (drop place text)) ≡ 4
  long = length-take-le 4 (drop place text) (omega (arith, length-drop place text, low.room))

  all_there : digit_count (take 4 (drop place text)) ≡ 4
  all_there = count_prefix (drop place text) 4 read.enough ∙ long

  module _ (number : ℕ) (fits : number < 2 ^ 32) (is : number ≡ from_le_bytes w32 (take 4 (drop place text))) where
    bytes : four_digits number ≡ take 4 (drop place text)
    bytes = le_bytes_4 (take 4 (drop place text)) number long (digits_fit (take 4 (drop place text)) (omega (arith, all_there, long))) is

    pub are_there : AreFourDigits number
    are_there = (fits, ap digit_count bytes ∙ all_there)

    pub read_there : digits 4 (drop place text) ≡ Some (digits_value 10 (four_digits number), drop (place + 4) text)
    read_there = rw (ap (digits_value 10) bytes ∙ read.value) four

-- ---- and back

digit_in : (bytes : List ℕ) (k : ℕ) → k < digit_count bytes → HasDigit bytes k
digit_in bytes k lt = let d = digit_here (get_or bytes k 0) (prefix_len_passes is_ascii_digit bytes k 0 lt) in record { low = d.0; high = d.1 }

pub pair_in : (bytes : List ℕ) (place : ℕ) → place + 2 ≤ digit_count bytes → HasPair bytes place
pair_in bytes place enough = grind (arith, nat_tests, prefix_len-le-length, digit_in)

-- ---- in order, as texts are

abbrev text : ℕ → ℕ → ℕ → ℕ → ℕ
text a b c d = (48 + a) * 16_777_216 + (48 + b) * 65_536 + (48 + c) * 256 + (48 + d)

abbrev whole : ℕ → ℕ → ℕ → ℕ → ℕ
whole a b c d = a * 1000 + b * 100 + c * 10 + d

pub in_order : (x y p q : ℕ) → x ≤ 9999 → y ≤ 9999 → p ≡ from_be_bytes w32 (decimal 4 x) → q ≡ from_be_bytes w32 (decimal 4 y) → (p < q → x < y) × (x < y → p < q)
unfolding decimal
in_order x y p q hx hy ep eq = grind (arith, nat_tests)

pub tested : (p q x y : ℕ) → (p < q → x < y) × (x < y → p < q) → (IsTrue (nat_lt p q) → x < y) × (x < y → IsTrue (nat_lt p q))
tested p q x y order = (λ test. order.0 (grind (arith, nat_tests)), λ lt. let less = order.1 lt in grind (arith, nat_tests))
