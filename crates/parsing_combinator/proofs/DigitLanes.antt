-- How many bytes have the high half of a digit, counted at once.
use Rattle.std.proofs.Common.{◌≡◌, ℕ, zero, suc, ◌+◌, ◌-◌, ◌*◌, ◌/◌, ◌%◌, ◌^◌, ◌<◌, ◌≤◌, ◌==◌, ◌&&◌, List, [], ◌∷◌, length, get_or, take, drop, replicate, None, Bool, cond, true, false, refl, sym, ap, ◌∙◌, arith, lit<, inl, inr}
use Rattle.std.specs.Int.Bits.{bit_and, bit_xor}
use Rattle.std.specs.Int.Count.{count_trailing_zeros}
use Rattle.std.specs.List.{prefix_len}
use Rattle.std.specs.Char.{is_ascii_digit}
use Rattle.std.proofs.lemmas.Bool.{agree_below_at, eqb-true, cases_eq, cases_lt, false_from_ne_true}
use Rattle.std.proofs.lemmas.Bool.Decides.{nat_tests}
use Rattle.std.proofs.lemmas.List.{get_or-drop, get_or-take, get_or_past, get_or_append_left, get_or-append_right, get_or-replicate, length-take, length-take-le}
use Rattle.std.proofs.lemmas.List.Sums.{prefix_len_passes, prefix_len_stops, prefix_len-le-length}
use Rattle.std.proofs.lemmas.Nat.{trailing_le, and_block, xor_block, and_le_r, xor_lt, pow-add}
use Rattle.parsing_combinator.specs.Chunks.{chunk, padded, likely_digits}
use Rattle.parsing_combinator.specs.Pieces.{digits}
use Rattle.parsing_combinator.proofs.Fixed.{digits_one, some_if}
use Rattle.parsing_combinator.proofs.PaddingLemmas.{padded_long, padded_fit}
use Rattle.parsing_combinator.proofs.Lanes.{AreBytes, are_bytes}

-- 0 for a byte with the high half of a digit
abbrev pub half : ℕ → ℕ
half b = bit_xor (bit_and b 240) 48

half_next : (x y z b : ℕ) → b < 256 → bit_xor (bit_and (x * 256 + b) (y * 256 + 240)) (z * 256 + 48) ≡ bit_xor (bit_and x y) z * 256 + half b
half_next x y z b lt =
    ap (λ (w : ℕ). bit_xor w (z * 256 + 48)) (and_block 8 x y b 240 lt (lit< tt)) ∙ xor_block 8 (bit_and x y) z (bit_and b 240) 48 (omega (arith, and_le_r b 240)) (lit< tt)

-- ---- the zeros below the lowest bit that is set

even : (k n : ℕ) → count_trailing_zeros (suc k) (n * 2) ≡ suc (count_trailing_zeros k n)
unfolding count_trailing_zeros
even k n = grind (arith, nat_tests)

two_more : (n : ℕ) → 2 ^ suc n ≡ 2 ^ n * 2
two_more n = ap (λ (m : ℕ). 2 ^ m) (let e : suc n ≡ n + 1 = omega arith in e) ∙ pow-add 2 n 1

zeros_more : (j k n c : ℕ) → n ≡ j + k → count_trailing_zeros n (c * 2 ^ j) ≡ j + count_trailing_zeros k c
zeros_more zero k n c is = grind (arith, nat_tests)
zeros_more (suc j) k n c is =
    let more : n ≡ suc (j + k) = omega arith in
    let twice : c * 2 ^ suc j ≡ c * 2 ^ j * 2 = rw (two_more j) (omega arith) in
    rw (more, twice, even (j + k) (c * 2 ^ j)) (omega (arith, zeros_more j k (j + k) c refl))

odd : (k n : ℕ) → n % 2 ≡ 1 → count_trailing_zeros (suc k) n ≡ 0
unfolding count_trailing_zeros
odd k n e = rw e refl

-- a number that is not 0 by its lowest digits has fewer zeros
some_byte : (j k c x p : ℕ) → p ≡ 2 ^ j → 0 < x → x < p → count_trailing_zeros k (c * p + x) < j
some_byte zero k c x p e some less = absurd (let one : p ≡ 1 = e in omega arith)
some_byte (suc j) zero c x p e some less = omega (arith, trailing_le zero (c * p + x))
some_byte (suc j) (suc k) c x p e some less =
    let double : p ≡ 2 ^ j * 2 = e ∙ two_more j in
    elim (cases_eq (x % 2) 0) [
      | inr n ↦
          let is_odd : (c * p + x) % 2 ≡ 1 = rw double (omega arith) in
          rw (odd k (c * p + x) is_odd) (omega arith)
      | inl z ↦
          let is : c * p + x ≡ (c * 2 ^ j + x / 2) * 2 = rw double (omega arith) in
          let rest = some_byte j k c (x / 2) (2 ^ j) refl (omega arith) (omega (arith, double)) in
          rw (is, even k (c * 2 ^ j + x / 2)) (omega (arith, rest))
    ]

-- one byte more before the others
count_next : (k c b : ℕ) → b < 256 → count_trailing_zeros (8 * suc k) (c * 256 + half b) / 8 ≡ cond (half b == 0) (1 + count_trailing_zeros (8 * k) c / 8) 0
count_next k c b lt =
    let more : 8 * suc k ≡ 8 + 8 * k = omega arith in
    elim (cases_eq (half b) 0) [
      | inl e ↦
          let number : c * 256 + half b ≡ c * 256 = omega arith in
          let zeros = zeros_more 8 (8 * k) (8 + 8 * k) c refl in
          let test : (half b == 0) ≡ true = grind (arith, nat_tests) in
          rw (more, number, zeros, test) (omega arith)
      | inr n ↦
          let few = some_byte 8 (8 * suc k) c (half b) 256 refl (omega arith) (xor_lt 8 (bit_and b 240) 48 (omega (arith, and_le_r b 240)) (lit< tt)) in
          let test : (half b == 0) ≡ false = grind (arith, nat_tests) in
          rw test (omega (arith, few))
    ]

-- of the first bytes those before the first one that has another high half
count_is : (n : ℕ) (bytes : List ℕ) → AreBytes bytes → count_trailing_zeros (8 * n) (bit_xor (bit_and (chunk (take n bytes)) (chunk (replicate n 240))) (chunk (replicate n 48))) / 8 ≡ prefix_len (λ b. half b == 0) (take n bytes)
unfolding chunk
count_is zero bytes are = omega (arith, trailing_le zero (bit_xor (bit_and 0 0) 0))
count_is (suc n) [] are =
    ap (λ (w : ℕ). count_trailing_zeros (8 * suc n) w / 8) (half_next 0 (chunk (replicate n 240)) (chunk (replicate n 48)) 0 (lit< tt)) ∙ count_next n (bit_xor (bit_and 0 (chunk (replicate n 240))) (chunk (replicate n 48))) 0 (lit< tt)
count_is (suc n) (b ∷ bs) are =
    ap (λ (w : ℕ). count_trailing_zeros (8 * suc n) w / 8) (half_next (chunk (take n bs)) (chunk (replicate n 240)) (chunk (replicate n 48)) b are.0)
    ∙ count_next n (bit_xor (bit_and (chunk (take n bs)) (chunk (replicate n 240))) (chunk (replicate n 48))) b are.0 ∙ ap (λ (m : ℕ). cond (half b == 0) (1 + m) 0) (count_is n bs are.1)

-- a byte has the high half of a digit
half_is : (b : ℕ) → b < 256 → (half b == 0) ≡ (bit_and b 240 == 48)
half_is b lt = agree_below_at (λ (x : ℕ). half x == 0) (λ (x : ℕ). bit_and x 240 == 48) 256 b refl lt

digit_half : (b : ℕ) → b < 256 → is_ascii_digit b ≡ true → (half b == 0) ≡ true
digit_half b lt h =
    let all : cond (is_ascii_digit b) (half b == 0) true ≡ true = agree_below_at (λ (x : ℕ). cond (is_ascii_digit x) (half x == 0) true) (λ _. true) 256 b refl lt in
    rw h at all

-- bytes that all have the high half of a digit
all_halves : (bytes : List ℕ) → AreBytes bytes → ((k : ℕ) → k < length bytes → bit_and (get_or bytes k 0) 240 ≡ 48) → bit_and (chunk bytes) (chunk (replicate (length bytes) 240)) ≡ chunk (replicate (length bytes) 48)
unfolding chunk
all_halves [] are halves = refl
all_halves (b ∷ bs) are halves =
    and_block 8 (chunk bs) (chunk (replicate (length bs) 240)) b 240 are.0 (lit< tt) ∙ rw (all_halves bs are.1 (λ k lt. halves (suc k) (omega (arith, lt))), halves 0 (omega arith)) refl

no_digit : (q p : Bool) (v : ℕ) (rest : List ℕ) → p ≡ false → some_if (q && p) v rest ≡ None
no_digit q p v rest e = grind (arith, nat_tests)

-- what the count says of the bytes
pub record Counted (bytes : List ℕ) (count : ℕ) : Type 0 where
  pub few : count ≤ 8
  pub within : count ≤ length bytes
  pub here : bit_and (chunk (padded count bytes)) 17_361_641_481_138_401_520 ≡ 3_472_328_296_227_680_304
  pub ends : count < 8 → digits 1 (drop count bytes) ≡ None

module _ (bytes : List ℕ) (count : ℕ) (fit : (k : ℕ) → get_or bytes k 0 < 256) (is : count ≡ likely_digits (chunk (take 8 bytes))) where
  as_prefix : count ≡ prefix_len (λ b. half b == 0) (take 8 bytes)
  unfolding likely_digits chunk
  as_prefix = is ∙ count_is 8 bytes (are_bytes bytes fit)

  at_most : count ≤ 8
  at_most = omega (arith, as_prefix, prefix_len-le-length (λ b. half b == 0) (take 8 bytes), length-take 8 bytes)

  there : count ≤ length bytes
  there = omega (arith, as_prefix, prefix_len-le-length (λ b. half b == 0) (take 8 bytes), length-take 8 bytes)

  each : (k : ℕ) → k < count → bit_and (get_or bytes k 0) 240 ≡ 48
  each k lt =
      let passes = prefix_len_passes (λ b. half b == 0) (take 8 bytes) k 0 (omega (arith, as_prefix)) in
      eqb-true _ _ (sym (half_is (get_or bytes k 0) (fit k)) ∙ rw (get_or-take 8 bytes k 0 (omega (arith, lt, at_most))) at passes)

  stops : count < 8 → is_ascii_digit (get_or bytes count 0) ≡ false
  stops lt = elim (cases_lt count (length bytes)) [
    | inl inside ↦
        let at = prefix_len_stops (λ b. half b == 0) (take 8 bytes) 0 (omega (arith, as_prefix, length-take 8 bytes)) in
        let other : (half (get_or bytes count 0) == 0) ≡ false = rw (← get_or-take 8 bytes count 0 lt, as_prefix) at in
        false_from_ne_true (is_ascii_digit (get_or bytes count 0)) (λ yes. absurd (let both = digit_half (get_or bytes count 0) (fit count) yes in cc))
    | inr past ↦ rw (get_or_past bytes count 0 past) refl
  ]

  padded_each : (k : ℕ) → k < 8 → bit_and (get_or (padded count bytes) k 0) 240 ≡ 48
  padded_each k lt =
      let long = length-take-le count bytes there in
      elim (cases_lt k count) [
        | inl early ↦ rw (get_or_append_left (take count bytes) (replicate (8 - count) 48) 0 k (omega (arith, long)), get_or-take count bytes k 0 early) (each k early)
        | inr late ↦ rw (get_or-append_right (take count bytes) (replicate (8 - count) 48) count k 0 long late, get_or-replicate {A = ℕ} (8 - count) (k - count) 48 0 (omega arith)) refl
      ]

  pub count_says : Counted bytes count
  unfolding chunk
  count_says =
      let long = padded_long bytes count at_most there fit in
      let all = all_halves (padded count bytes) (are_bytes (padded count bytes) (padded_fit bytes count at_most there fit)) (λ k lt. padded_each k (omega (arith, long))) in
      record {
        few = at_most;
        within = there;
        here = rw long at all;
        ends = λ lt.
            let first : is_ascii_digit (get_or (drop count bytes) 0 0) ≡ false = rw get_or-drop (let e : count + 0 ≡ count = omega arith in rw e (stops lt)) in
            digits_one (drop count bytes) ∙ no_digit _ _ _ _ first;
      }
