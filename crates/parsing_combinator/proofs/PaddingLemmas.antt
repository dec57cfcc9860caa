-- Digits at the start of bytes, read with zeros after them.
use Rattle.std.proofs.Common.{◌≡◌, ℕ, zero, suc, ◌+◌, ◌-◌, ◌*◌, ◌%◌, ◌^◌, ◌<◌, ◌≤◌, eqb, List, [], ◌∷◌, ◌++◌, length, get_or, take, drop, replicate, true, Fits, w64, refl, sym, ap, ◌∙◌, arith, lit<, take-append-drop, length-append}
use Rattle.std.specs.Int.Bits.{bit_and}
use Rattle.std.proofs.lemmas.Bool.{agree_below_at, eqb-true}
use Rattle.std.proofs.lemmas.List.{length-take-le, take_all, take-take, drop_more, get_or-drop, length-drop}
use Rattle.std.proofs.lemmas.Simd.{length-replicate}
use Rattle.std.proofs.lemmas.Nat.{pow-add, and_mask}
use Rattle.std.proofs.Math.Nat.{add-mul-mod_self_right, mod-eq_of_lt, pow-le-pow_right}
use Rattle.parsing_combinator.specs.Pieces.{digit_count}
use Rattle.parsing_combinator.specs.declared.chunk.TheConstants.{FIRST_BYTES, ZEROS_AFTER}
use Rattle.parsing_combinator.specs.Chunks.{chunk, padded, AreEightDigits}
use Rattle.parsing_combinator.proofs.Decimal.{count_least}
use Rattle.parsing_combinator.proofs.DigitChunks.{eight_there}
use Rattle.parsing_combinator.proofs.AtPlaces.{is_digit}
use Rattle.parsing_combinator.proofs.Lanes.{take_fit}

byte_power : (n : ℕ) → 2 ^ (8 * suc n) ≡ 2 ^ (8 * n) * 256
byte_power n = ap (λ (k : ℕ). 2 ^ k) (let e : 8 * suc n ≡ 8 * n + 8 = omega arith in e) ∙ pow-add 2 (8 * n) 8

one_more : (w b p q : ℕ) → w < p → b < 256 → q ≡ p * 256 → w * 256 + b < q
one_more w b p q h k e = omega arith

pub chunk_below : (bytes : List ℕ) → ((k : ℕ) → get_or bytes k 0 < 256) → chunk bytes < 2 ^ (8 * length bytes)
unfolding chunk
chunk_below [] fit = lit< tt
chunk_below (b ∷ bs) fit = one_more (chunk bs) b (2 ^ (8 * length bs)) (2 ^ (8 * suc (length bs))) (chunk_below bs (λ k. fit (suc k))) (fit 0) (byte_power (length bs))

pub drop_fit : (n : ℕ) (bytes : List ℕ) → ((k : ℕ) → get_or bytes k 0 < 256) → (k : ℕ) → get_or (drop n bytes) k 0 < 256
drop_fit n bytes fit k = rw (get_or-drop n bytes k 0) (fit (n + k))

pub drop_fits : (n : ℕ) (bytes : List ℕ) → length bytes < 8 → ((k : ℕ) → get_or bytes k 0 < 256) → chunk (drop n bytes) < 2 ^ 56
drop_fits n bytes lt fit =
    let most : 2 ^ (8 * length (drop n bytes)) ≤ 2 ^ 56 = pow-le-pow_right {n = 2} (lit< tt) {i = 8 * length (drop n bytes)} {j = 56} (omega (arith, length-drop n bytes)) in
    omega (arith, chunk_below (drop n bytes) (drop_fit n bytes fit), most)

-- one byte more before
pub chunk_drop : (n : ℕ) (bytes : List ℕ) → n < length bytes → chunk (drop n bytes) ≡ chunk (drop (n + 1) bytes) * 256 + get_or bytes n 0
unfolding chunk
chunk_drop n bytes lt = ap chunk (drop_more bytes n 0 lt)

-- the table of ones
pub ones_at : (n : ℕ) → n < 9 → get_or FIRST_BYTES n 0 ≡ 2 ^ (8 * n) - 1
ones_at n h = eqb-true _ _ (agree_below_at (λ (k : ℕ). eqb (get_or FIRST_BYTES k 0) (2 ^ (8 * k) - 1)) (λ _. true) 9 n refl h)

-- the table of zeros
pub zeros_at : (n : ℕ) → n < 9 → get_or ZEROS_AFTER n 0 ≡ chunk (replicate (8 - n) 48) * 2 ^ (8 * n)
unfolding chunk
zeros_at n h = eqb-true _ _ (agree_below_at (λ (k : ℕ). eqb (get_or ZEROS_AFTER k 0) (chunk (replicate (8 - k) 48) * 2 ^ (8 * k))) (λ _. true) 9 n refl h)

appended : (x y b p q : ℕ) → q ≡ p * 256 → (x + y * p) * 256 + b ≡ x * 256 + b + y * q
appended x y b p q e = rw e (omega arith)

pub chunk_append : (xs ys : List ℕ) → chunk (xs ++ ys) ≡ chunk xs + chunk ys * 2 ^ (8 * length xs)
unfolding chunk
chunk_append [] ys = omega arith
chunk_append (x ∷ xs) ys = rw (chunk_append xs ys) (appended (chunk xs) (chunk ys) x (2 ^ (8 * length xs)) (2 ^ (8 * suc (length xs))) (byte_power (length xs)))

append_fit : (xs ys : List ℕ) → ((k : ℕ) → get_or xs k 0 < 256) → ((k : ℕ) → get_or ys k 0 < 256) → (k : ℕ) → get_or (xs ++ ys) k 0 < 256
append_fit [] ys fx fy k = fy k
append_fit (x ∷ xs) ys fx fy zero = fx 0
append_fit (x ∷ xs) ys fx fy (suc k) = append_fit xs ys (λ j. fx (suc j)) fy k

zeros_fit : (m k : ℕ) → get_or (replicate m 48) k 0 < 256
zeros_fit zero k = lit< tt
zeros_fit (suc m) zero = lit< tt
zeros_fit (suc m) (suc k) = zeros_fit m k

module _ (bytes : List ℕ) (k : ℕ) (few : k ≤ 8) (within : k ≤ length bytes) (fit : (j : ℕ) → get_or bytes j 0 < 256) where
  long : length (take k bytes) ≡ k
  long = length-take-le k bytes within

  pub padded_long : length (padded k bytes) ≡ 8
  padded_long = omega (arith, length-append (take k bytes) (replicate (8 - k) 48), length-replicate {A = ℕ} (8 - k) 48, long)

  pub padded_fit : (j : ℕ) → get_or (padded k bytes) j 0 < 256
  padded_fit = append_fit (take k bytes) (replicate (8 - k) 48) (take_fit k bytes fit) (zeros_fit (8 - k))

  pub padded_whole : take 8 (padded k bytes) ≡ padded k bytes
  padded_whole = take_all 8 (padded k bytes) (omega (arith, padded_long))

  sum : chunk (padded k bytes) ≡ chunk (take k bytes) + chunk (replicate (8 - k) 48) * 2 ^ (8 * k)
  sum = chunk_append (take k bytes) (replicate (8 - k) 48) ∙ rw long refl

  -- the first bytes of a chunk, and zeros after them
  pub padded_is : bit_and (chunk (take 8 bytes)) (2 ^ (8 * k) - 1) + chunk (replicate (8 - k) 48) * 2 ^ (8 * k) ≡ chunk (padded k bytes)
  padded_is =
      let prefix : take k (take 8 bytes) ≡ take k bytes = take-take k 8 bytes few in
      let parts : chunk (take 8 bytes) ≡ chunk (take k bytes) + chunk (drop k (take 8 bytes)) * 2 ^ (8 * k) =
      ap chunk (sym (take-append-drop k (take 8 bytes))) ∙ chunk_append (take k (take 8 bytes)) (drop k (take 8 bytes)) ∙ rw prefix (rw long refl) in
      let below : chunk (take k bytes) < 2 ^ (8 * k) = rw long at (chunk_below (take k bytes) (take_fit k bytes fit)) in
      let mask : bit_and (chunk (take 8 bytes)) (2 ^ (8 * k) - 1) ≡ chunk (take k bytes) = and_mask (chunk (take 8 bytes)) (8 * k) ∙ ap (λ (n : ℕ). n % 2 ^ (8 * k)) parts ∙ add-mul-mod_self_right (chunk (take k bytes)) (chunk (drop k (take 8 bytes))) (2 ^ (8 * k)) ∙ mod-eq_of_lt below in
      rw mask (sym sum)

  below : chunk (padded k bytes) < 2 ^ 64
  below = rw padded_long at (chunk_below (padded k bytes) padded_fit)

  pub padded_below : Fits w64 (chunk (padded k bytes))
  padded_below = record { fits = below }

  pub padded_counted : AreEightDigits (chunk (padded k bytes)) → 8 ≤ digit_count (padded k bytes)
  padded_counted test =
      let le : 8 ≤ length (padded k bytes) = omega (arith, padded_long) in
      let d = eight_there (padded k bytes) le padded_fit (rw padded_whole test) in
      count_least 8 (padded k bytes) le (λ j lt. is_digit (get_or (padded k bytes) j 0) (d j lt).low (d j lt).high)
