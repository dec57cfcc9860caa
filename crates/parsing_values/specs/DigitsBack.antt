-- Digits come back from the number that they write.
use Rattle.std.proofs.Common.{◌≡◌, ℕ, zero, suc, ◌+◌, ◌-◌, ◌*◌, ◌/◌, ◌%◌, ◌^◌, ◌<◌, ◌≤◌, List, [], ◌∷◌, ◌++◌, get_or, length, take, w32, w64, refl, sym, ap, ◌∙◌, arith}
use Rattle.std.specs.Int.{from_le_bytes}
use Rattle.std.specs.Char.{is_ascii_digit}
use Rattle.std.specs.Str.Parse.{digits_value}
use Rattle.std.proofs.lemmas.Int.Digits.{digits_value_more, digits_value-lt}
use Rattle.std.proofs.lemmas.List.{take_more, take_all}
use Rattle.std.proofs.lemmas.List.Sums.{prefix_len_passes, prefix_len-le-length}
use Rattle.std.proofs.lemmas.Nat.{from_le_bytes-to_le_bytes_4, from_le_bytes-to_le_bytes_8}
use Rattle.parsing_combinator.specs.Pieces.{digit_count}
use Rattle.parsing_combinator.proofs.Decimal.{digit_here}
use Rattle.parsing_combinator.proofs.FractionDigits.{all_digits}
use Rattle.parsing_values.specs.Decimal.{decimal}
use Rattle.parsing_values.specs.Digits.{nine_digits, AreNineDigits, four_digits, AreFourDigits}

-- the last digit, after the decimal of the others
one_more : (w v c : ℕ) (prefix : List ℕ) → 48 ≤ c → c ≤ 57 → decimal w v ≡ prefix → decimal (suc w) (v * 10 + (c - 48)) ≡ prefix ++ c ∷ []
unfolding decimal
one_more w v c prefix low high e =
    let tens : (v * 10 + (c - 48)) / 10 ≡ v = omega arith in
    let last : 48 + (v * 10 + (c - 48)) % 10 ≡ c = omega arith in
    rw (tens, last, e) refl

-- the digits at the start are the decimal of their number
pub decimal_of_digits : (n : ℕ) (bytes : List ℕ) → n ≤ digit_count bytes → decimal n (digits_value 10 (take n bytes)) ≡ take n bytes
unfolding decimal
decimal_of_digits zero bytes h = refl
decimal_of_digits (suc n) bytes h =
    let within : n < length bytes = omega (arith, prefix_len-le-length is_ascii_digit bytes) in
    let next : suc n ≡ n + 1 = omega arith in
    let digit = digit_here (get_or bytes n 0) (prefix_len_passes is_ascii_digit bytes n 0 (omega arith)) in
    let value : digits_value 10 (take (suc n) bytes) ≡ digits_value 10 (take n bytes) * 10 + (get_or bytes n 0 - 48) = rw next (digits_value_more 10 bytes n within ∙ ap (λ (d : ℕ). digits_value 10 (take n bytes) * 10 + d) digit.2) in
    ap (decimal (suc n)) value ∙ one_more n (digits_value 10 (take n bytes)) (get_or bytes n 0) (take n bytes) digit.0 digit.1 (decimal_of_digits n bytes (omega arith)) ∙ sym (rw next (take_more bytes n 0 within))

-- bytes that are all digits
pub decimal_back : (n : ℕ) (bytes : List ℕ) → digit_count bytes ≡ n → length bytes ≡ n → decimal n (digits_value 10 bytes) ≡ bytes
decimal_back n bytes all long =
    let whole : take n bytes ≡ bytes = take_all n bytes (omega arith) in
    rw whole at (decimal_of_digits n bytes (omega arith))

value_below : (n : ℕ) (bytes : List ℕ) → digit_count bytes ≡ n → length bytes ≡ n → digits_value 10 bytes < 10 ^ n
value_below n bytes all long = rw long at (digits_value-lt 10 bytes (all_digits bytes (omega arith)))

-- ---- of a fraction of a second

pub nine_back : (first last : ℕ) → AreNineDigits first last → decimal 9 (digits_value 10 (nine_digits first last)) ≡ nine_digits first last
unfolding nine_digits
nine_back first last are = decimal_back 9 (nine_digits first last) are.1 refl

pub first_back : (first last : ℕ) → AreNineDigits first last → from_le_bytes w64 (take 8 (decimal 9 (digits_value 10 (nine_digits first last)))) ≡ first
unfolding nine_digits
first_back first last are = ap (λ (l : List ℕ). from_le_bytes w64 (take 8 l)) (nine_back first last are) ∙ from_le_bytes-to_le_bytes_8 first are.0

pub last_back : (first last : ℕ) → AreNineDigits first last → 48 + digits_value 10 (nine_digits first last) % 10 ≡ last
unfolding nine_digits decimal
last_back first last are = ap (λ (l : List ℕ). get_or l 8 0) (nine_back first last are)

pub digits_below : (first last : ℕ) → AreNineDigits first last → digits_value 10 (nine_digits first last) < 1_000_000_000
unfolding nine_digits
digits_below first last are = value_below 9 (nine_digits first last) are.1 refl

-- ---- of a year

pub year_back : (digits : ℕ) → AreFourDigits digits → from_le_bytes w32 (decimal 4 (digits_value 10 (four_digits digits))) ≡ digits
year_back digits are = ap (from_le_bytes w32) (decimal_back 4 (four_digits digits) are.1 refl) ∙ from_le_bytes-to_le_bytes_4 digits are.0

pub year_below : (digits : ℕ) → AreFourDigits digits → digits_value 10 (four_digits digits) < 10_000
year_below digits are = value_below 4 (four_digits digits) are.1 refl
