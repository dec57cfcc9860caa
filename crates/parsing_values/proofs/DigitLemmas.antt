-- Nine digits of a fraction: of a number, and as they are read.
use Rattle.std.proofs.Common.{◌≡◌, ℕ, ◌+◌, ◌-◌, ◌%◌, ◌^◌, ◌<◌, ◌≤◌, List, [], ◌∷◌, ◌++◌, length, get_or, take, drop, replicate, Option, false, Some, None, w64, refl, sym, ap, ◌∙◌, arith, length-drop}
use Rattle.std.specs.Borrow.{Bor}
use Rattle.std.specs.Prelude.{is_some}
use Rattle.std.specs.Int.{from_le_bytes, to_le_bytes}
use Rattle.std.specs.Char.{is_ascii_digit, digit_value}
use Rattle.std.specs.Str.Parse.{digits_value}
use Rattle.std.proofs.lemmas.List.{append-nil, append_assoc, replicate_more, take_more, get_or_append_left, get_or-take, get_or-drop, length-take-le}
use Rattle.std.proofs.lemmas.List.Sums.{prefix_len_passes}
use Rattle.std.proofs.lemmas.Nat.{le_bytes_8}
use Rattle.parsing_combinator.specs.Pieces.{digits, digit_count, fraction, nanoseconds_of, cut_view}
use Rattle.parsing_combinator.specs.Chunks.{IsOfDigits, padded}
use Rattle.parsing_combinator.proofs.Decimal.{count_prefix, count_drop, count_least, digit_count_within, digit_here}
use Rattle.parsing_combinator.proofs.FractionDigits.{digits_read, none_there, padded_count, padded_value, fraction_there}
use Rattle.parsing_combinator.proofs.PaddingLemmas.{padded_long, padded_fit, padded_whole, padded_below}
use Rattle.parsing_combinator.proofs.Lanes.{chunk_eight}
use Rattle.parsing_values.specs.Decimal.{decimal}
use Rattle.parsing_values.specs.Digits.{nine_digits, AreNineDigits}
use Rattle.parsing_values.specs.DigitsBack.{digits_below, nine_back}
use Rattle.parsing_values.proofs.lemmas.Decimals.{decimal_count, decimal_value, digits_fit}
use Rattle.std.proofs.lemmas.Bool.Decides.{nat_tests}

nine_is : (first last : ℕ) (eight : List ℕ) → to_le_bytes w64 first ≡ eight → nine_digits first last ≡ eight ++ last ∷ []
unfolding nine_digits
nine_is first last eight is = ap (λ (bytes : List ℕ). bytes ++ last ∷ []) is

-- ---- of a number

-- the nine digits of a number write it
pub of_number : (n first last : ℕ) → n < 1_000_000_000 → first < 2 ^ 64 → first ≡ from_le_bytes w64 (take 8 (decimal 9 n)) → last ≡ 48 + n % 10 → AreNineDigits first last × (digits_value 10 (nine_digits first last) ≡ n)
unfolding decimal
of_number n first last h fits is end =
    let all : digit_count (decimal 9 n) ≡ 9 = decimal_count 9 n in
    let eight : to_le_bytes w64 first ≡ take 8 (decimal 9 n) = le_bytes_8 (take 8 (decimal 9 n)) first refl (digits_fit (take 8 (decimal 9 n)) (count_prefix (decimal 9 n) 8 (omega (arith, all)))) is in
    let nine : nine_digits first last ≡ decimal 9 n = nine_is first last (take 8 (decimal 9 n)) eight ∙ ap (λ (d : ℕ). take 8 (decimal 9 n) ++ d ∷ []) end in
    let small : n < 10 ^ 9 = omega (arith, h) in
    ((fits, ap digit_count nine ∙ all), ap (digits_value 10) nine ∙ decimal_value 9 n small)

-- what nine digits say that are kept for a number
pub record Kept (first last n : ℕ) : Type 0 where
  pub text : nine_digits first last ≡ decimal 9 n
  pub reads : digits 9 (nine_digits first last) ≡ Some (n, [])
  pub bound : n < 1_000_000_000

pub kept : (first last n : ℕ) → AreNineDigits first last → digits_value 10 (nine_digits first last) ≡ n → Kept first last n
unfolding digits nine_digits
kept first last n are is = grind (arith, nat_tests, nine_back, digits_below)

-- ---- as they are read

-- nine digits: so many at the start of bytes, and then zeros
pub record Nine (first last count : ℕ) (bytes : List ℕ) : Type 0 where
  pub are : AreNineDigits first last
  pub enough : count ≤ digit_count bytes
  pub value : digits_value 10 (nine_digits first last) ≡ nanoseconds_of (take count bytes)

pub nine_of : (first last count : ℕ) (bytes : List ℕ) → count ≤ 9 → count ≤ digit_count bytes → first < 2 ^ 64 → nine_digits first last ≡ take count bytes ++ replicate (9 - count) 48 → Nine first last count bytes
nine_of first last count bytes few enough fits is =
    grind (arith, nat_tests, length-take-le, digit_count_within, padded_count, count_prefix, padded_value)

module _ (bytes : List ℕ) (first count : ℕ) (c : IsOfDigits bytes first count) (fit : (k : ℕ) → get_or bytes k 0 < 256) where
  long : length (padded count bytes) ≡ 8
  long = padded_long bytes count c.few c.within fit

  below : first < 2 ^ 64
  below = rw c.number_is (padded_below bytes count c.few c.within fit).fits

  number : first ≡ from_le_bytes w64 (padded count bytes)
  number = omega (arith, c.number_is, rw (padded_whole bytes count c.few c.within fit) at (chunk_eight (padded count bytes) (omega (arith, long))))

  chunk_bytes : to_le_bytes w64 first ≡ padded count bytes
  chunk_bytes = le_bytes_8 (padded count bytes) first long (padded_fit bytes count c.few c.within fit) number

  counted : count ≤ digit_count bytes
  counted = count_least count bytes c.within (λ k lt.
      let here = prefix_len_passes is_ascii_digit (padded count bytes) k 0 (omega (arith, c.digits_are, c.few)) in
      rw (get_or_append_left (take count bytes) (replicate (8 - count) 48) 0 k (omega (arith, length-take-le count bytes c.within)), get_or-take count bytes k 0 lt) at here)

  -- at most eight digits
  pub short_nine : Nine first 48 count bytes
  short_nine =
      let more : 8 - count + 1 ≡ 9 - count = omega (arith, c.few) in
      nine_of first 48 count bytes (omega (arith, c.few)) counted below (nine_is first 48 (padded count bytes) chunk_bytes ∙ append_assoc (take count bytes) (replicate (8 - count) 48) (48 ∷ []) ∙ ap (λ (xs : List ℕ). take count bytes ++ xs) (replicate_more (8 - count) 48 ∙ ap (λ (n : ℕ). replicate n 48) more))

  -- nine digits
  pub long_nine : (value : ℕ) (rest : List ℕ) → count ≡ 8 → digits 1 (drop 8 bytes) ≡ Some (value, rest) → Nine first (48 + value) 9 bytes
  long_nine value rest all one =
      let r = digits_read 1 (drop 8 bytes) value rest one in
      let more = count_drop 8 bytes (rw all at counted) in
      let d = digit_here (get_or (drop 8 bytes) 0 0) (prefix_len_passes is_ascii_digit (drop 8 bytes) 0 0 r.enough) in
      let room : 8 < length bytes = omega (arith, more, r.enough, digit_count_within bytes) in
      let one : digits_value 10 (take 1 (drop 8 bytes)) ≡ digit_value (get_or (drop 8 bytes) 0 0) = ap (digits_value 10) (take_more (drop 8 bytes) 0 0 (omega (arith, r.enough, digit_count_within (drop 8 bytes)))) ∙ omega arith in
      let last : 48 + value ≡ get_or bytes 8 0 = omega (arith, d, r.value, one, get_or-drop 8 bytes 0 0) in
      nine_of first (48 + value) 9 bytes (omega arith) (omega (arith, more, r.enough)) below
      (nine_is first (48 + value) (take 8 bytes) (rw all at chunk_bytes ∙ append-nil (take 8 bytes)) ∙ ap (λ (d : ℕ). take 8 bytes ++ d ∷ []) last ∙ sym (take_more bytes 8 0 room) ∙ sym (append-nil (take 9 bytes)))

-- what is read of bytes, where no digit follows
pub record NineRead (first last : ℕ) (bytes rest : List ℕ) : Type 0 where
  pub are : AreNineDigits first last
  pub reads : fraction bytes ≡ Some (digits_value 10 (nine_digits first last), rest)
  pub bound : digits_value 10 (nine_digits first last) < 1_000_000_000
  pub at_most_nine : length bytes ≤ length rest + 9

pub nine_read : (first last count : ℕ) (bytes : List ℕ) → Nine first last count bytes → 0 < count → count ≤ 9 → digits 1 (drop count bytes) ≡ None → NineRead first last bytes (drop count bytes)
nine_read first last count bytes n some few none =
    let all : digit_count bytes ≡ count = omega (arith, count_drop count bytes n.enough, none_there (drop count bytes) none) in
    record { are = n.are; reads = rw n.value (fraction_there bytes count some all); bound = digits_below first last n.are; at_most_nine = omega (arith, few, length-drop count bytes) }

-- what a function returns that finds no digit
pub no_digit : (result : Option (ℕ × Bor (List ℕ))) (bytes : List ℕ) → cut_view result ≡ digits 1 bytes → is_some result ≡ false → digits 1 bytes ≡ None
no_digit result bytes cut absent = grind (arith, nat_tests)
