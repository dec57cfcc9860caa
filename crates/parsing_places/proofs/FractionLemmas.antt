-- Nine digits in lanes, as a fraction.
use Rattle.std.proofs.Common.{◌≡◌, ◌≤◌, ◌<◌, ◌+◌, ◌-◌, ◌*◌, ◌^◌, ◌∙◌, ℕ, true, List, ◌++◌, length, get_or, take, drop, replicate, refl, sym, ap, inl, inr, arith, take-append-drop}
use Rattle.std.specs.Char.{is_ascii_digit}
use Rattle.std.specs.Str.Parse.{digits_value}
use Rattle.std.proofs.lemmas.Bool.{cases_lt, false≢true}
use Rattle.std.proofs.lemmas.List.{ext_get_or, get_or-take, get_or-drop, get_or-replicate, length-take-le, length-drop, length-replicate}
use Rattle.std.proofs.lemmas.List.Sums.{prefix_len_stops}
use Rattle.std.proofs.lemmas.Nat.{le_bytes_8}
use Rattle.parsing_combinator.specs.Pieces.{digit_count, nanoseconds_of}
use Rattle.parsing_combinator.proofs.Decimal.{value_append, value_zeros, digit_count_within}
use Rattle.parsing_combinator.proofs.AtPlaces.{is_digit}
use Rattle.parsing_combinator.proofs.FractionDigits.{short_fraction}
use Rattle.parsing_combinator.proofs.Lanes.{spelled_is}
use Rattle.parsing_values.specs.Digits.{nine_digits, AreNineDigits}
use Rattle.parsing_combinator.specs.Written.{WriteFraction}
use lib.Lanes.{number_l, chunk}
use Rattle.std.proofs.lemmas.Bool.Decides.{nat_tests}

-- digits before are counted
counted : (xs : List ℕ) (n : ℕ) → n ≤ length xs → ((k : ℕ) → k < n → is_ascii_digit (get_or xs k 0) ≡ true) → n ≤ digit_count xs
counted xs n le h = elim (cases_lt (digit_count xs) n) [
  | inl less ↦ absurd (false≢true (sym (prefix_len_stops is_ascii_digit xs 0 (omega (arith, less, le))) ∙ h (digit_count xs) less))
  | inr far ↦ far
]

-- the first nine lanes as the digits of a fraction are kept
nine_is : (xs : List ℕ) (first last : ℕ) → length xs ≡ 16 → ((k : ℕ) → get_or xs k 0 < 256) → first ≡ number_l 256 (chunk 0 8 xs) → last ≡ get_or xs 8 0 → nine_digits first last ≡ take 9 xs
unfolding nine_digits
nine_is xs first last n small is end = grind (arith, nat_tests, le_bytes_8)

first_below : (xs : List ℕ) (first : ℕ) → length xs ≡ 16 → ((k : ℕ) → get_or xs k 0 < 256) → first ≡ number_l 256 (chunk 0 8 xs) → first < 2 ^ 64
first_below xs first n small is =
    let sum = is ∙ ap (number_l 256) (spelled_is 8 0 xs (omega (arith, n))) in
    omega (arith, sum, small 0, small 1, small 2, small 3, small 4, small 5, small 6, small 7)

pub record Fractional (bytes : List ℕ) (count first last : ℕ) : Type 0 where
  pub are : AreNineDigits first last
  pub writes : WriteFraction bytes count (digits_value 10 (nine_digits first last))

pub fraction_in : (bytes f : List ℕ) (count first last : ℕ) → count ≤ 9 → count ≤ length bytes → length f ≡ 16 → ((k : ℕ) → get_or f k 0 < 256)
    → ((k : ℕ) → k < count → 48 ≤ get_or bytes k 0) → ((k : ℕ) → k < count → get_or bytes k 0 ≤ 57) → ((k : ℕ) → k < count → get_or f k 0 ≡ get_or bytes k 0) → ((k : ℕ) → count ≤ k → k < 9 → get_or f k 0 ≡ 48)
    → first ≡ number_l 256 (chunk 0 8 f) → last ≡ get_or f 8 0 → Fractional bytes count first last
fraction_in bytes f count first last few within n small low high same zeros is end =
    let nine : nine_digits first last ≡ take 9 f = nine_is f first last n small is end in
    let long : length (take 9 f) ≡ 9 = length-take-le 9 f (omega (arith, n)) in
    let run : List ℕ = take count bytes in
    let run_long : length run ≡ count = length-take-le count bytes within in
    let prefix : take count (take 9 f) ≡ run = ext_get_or 0 (take count (take 9 f)) run (length-take-le count (take 9 f) (omega (arith, long, few)) ∙ sym run_long)
    (λ k lt. let lt' : k < count = omega (arith, lt, length-take-le count (take 9 f) (omega (arith, long, few))) in
    get_or-take count (take 9 f) k 0 lt' ∙ get_or-take 9 f k 0 (omega (arith, lt', few)) ∙ same k lt' ∙ sym (get_or-take count bytes k 0 lt')) in
    let after_long : length (drop count (take 9 f)) ≡ 9 - count = omega (arith, length-drop count (take 9 f), long) in
    let after : drop count (take 9 f) ≡ replicate (9 - count) 48 = ext_get_or 0 (drop count (take 9 f)) (replicate (9 - count) 48) (after_long ∙ sym (length-replicate (9 - count) 48))
    (λ k lt. let lt' : k < 9 - count = omega (arith, lt, after_long) in
    get_or-drop count (take 9 f) k 0 ∙ get_or-take 9 f (count + k) 0 (omega (arith, lt')) ∙ zeros (count + k) (omega arith) (omega (arith, lt')) ∙ sym (get_or-replicate (9 - count) k 48 0 lt')) in
    let split : take 9 f ≡ run ++ replicate (9 - count) 48 = sym (take-append-drop count (take 9 f)) ∙ rw (prefix, after) refl in
    let value : digits_value 10 (run ++ replicate (9 - count) 48) ≡ digits_value 10 run * 10 ^ (9 - count) = value_append 0 run (replicate (9 - count) 48) ∙ value_zeros (digits_value 10 run) (9 - count) in
    let nanos : digits_value 10 run * 10 ^ (9 - count) ≡ nanoseconds_of run = ap (λ (m : ℕ). digits_value 10 run * 10 ^ (9 - m)) (sym run_long) ∙ short_fraction run (omega (arith, run_long, few)) in
    let digit : (k : ℕ) → k < 9 → is_ascii_digit (get_or (take 9 f) k 0) ≡ true = (λ k lt. rw (get_or-take 9 f k 0 lt) (elim (cases_lt k count) [
      | inl prefix ↦ rw (same k prefix) (is_digit (get_or bytes k 0) (low k prefix) (high k prefix))
      | inr back ↦ rw (zeros k back lt) refl
    ])) in
    let all : 9 ≤ digit_count (take 9 f) = counted (take 9 f) 9 (omega (arith, long)) digit in
    record {
      are = (first_below f first n small is, rw nine (omega (arith, all, long, digit_count_within (take 9 f))));
      writes = record {
        enough = counted bytes count within (λ k lt. is_digit (get_or bytes k 0) (low k lt) (high k lt));
        value = rw (nine, split) (value ∙ nanos);
      };
    }
