-- Eight digits read at once.
use Rattle.std.proofs.Common.{◌≡◌, ℕ, suc, ◌+◌, ◌*◌, ◌/◌, ◌%◌, ◌^◌, ◌<◌, ◌≤◌, ◌∙◌, List, [], ◌∷◌, length, get_or, take, drop, replicate, Some, refl, ap, arith, lit<}
use Rattle.std.specs.Int.Bits.{bit_and}
use Rattle.std.proofs.lemmas.List.{get_or-take, length-take-le}
use Rattle.parsing_combinator.specs.Pieces.{digits}
use Rattle.parsing_combinator.specs.Chunks.{chunk, AreEightDigits}
use Rattle.parsing_combinator.specs.Places.{HasDigit, HasPair, AreFour}
use Rattle.parsing_combinator.proofs.AtPlaces.{four_bytes, four_bounds, pairs_there, four_there, first_two, last_two}
use Rattle.parsing_combinator.proofs.Fixed.{digits_eight, joined}
use Rattle.parsing_combinator.proofs.Lanes.{AreBytes, are_bytes, take_fit, split, half_lane, digit_lane, chunk_eight}
use Rattle.std.proofs.lemmas.Bool.Decides.{nat_tests}

abbrev IsDigit : ℕ → Type 0
IsDigit b = (48 ≤ b) × (b ≤ 57)

-- bytes with the high half of a digit
halves_below : (bs : List ℕ) → AreBytes bs → bit_and (chunk bs) (chunk (replicate (length bs) 240)) ≡ chunk (replicate (length bs) 48) → chunk bs ≤ chunk (replicate (length bs) 63)
unfolding chunk
halves_below [] are here = omega arith
halves_below (b ∷ bs) are here =
    let s = split (chunk bs) b (chunk (replicate (length bs) 240)) 240 (chunk (replicate (length bs) 48)) 48 are.0 (lit< tt) (lit< tt) here in
    omega (arith, halves_below bs are.1 s.high, half_lane b are.0 s.low)

digit_at : (b : ℕ) (bs : List ℕ) (k : ℕ) → IsDigit b → ((j : ℕ) → j < length bs → IsDigit (get_or bs j 0)) → k < suc (length bs) → IsDigit (get_or (b ∷ bs) k 0)
digit_at b bs k first rest lt = grind (arith, nat_tests)

-- a test of all bytes, and of those six above them: each is a digit
all_digits : (bs : List ℕ) → AreBytes bs → bit_and (chunk bs) (chunk (replicate (length bs) 240)) ≡ chunk (replicate (length bs) 48)
    → bit_and (chunk bs + chunk (replicate (length bs) 6)) (chunk (replicate (length bs) 240)) ≡ chunk (replicate (length bs) 48) → (k : ℕ) → k < length bs → IsDigit (get_or bs k 0)
unfolding chunk
all_digits [] are here more k lt = absurd (omega arith)
all_digits (b ∷ bs) are here more k lt =
    let n = length bs in
    let s = split (chunk bs) b (chunk (replicate n 240)) 240 (chunk (replicate n 48)) 48 are.0 (lit< tt) (lit< tt) here in
    let sum : chunk bs * 256 + b + (chunk (replicate n 6) * 256 + 6) ≡ (chunk bs + chunk (replicate n 6)) * 256 + (b + 6) = omega arith in
    let above = split (chunk bs + chunk (replicate n 6)) (b + 6) (chunk (replicate n 240)) 240 (chunk (replicate n 48)) 48 (omega (arith, half_lane b are.0 s.low)) (lit< tt) (lit< tt) (rw sum at more) in
    digit_at b bs k (digit_lane b are.0 s.low above.low) (λ j less. all_digits bs are.1 s.high above.high j less) lt

-- what the test of the whole number says
pub eight_there : (bytes : List ℕ) → 8 ≤ length bytes → ((k : ℕ) → get_or bytes k 0 < 256) → AreEightDigits (chunk (take 8 bytes)) → (k : ℕ) → k < 8 → HasDigit bytes k
unfolding chunk
eight_there bytes le fit test k lt =
    let xs : List ℕ = take 8 bytes in
    let long : length xs ≡ 8 = length-take-le 8 bytes le in
    let are = are_bytes xs (take_fit 8 bytes fit) in
    let least = halves_below xs are (rw long test.here) in
    let sum : (chunk xs + 434_041_037_028_460_038) % 2 ^ 64 ≡ chunk xs + 434_041_037_028_460_038 = omega (arith, rw long at least) in
    let d = rw (get_or-take 8 bytes k 0 lt) at (all_digits xs are (rw long test.here) (rw long (rw sum at test.above)) k (omega (arith, long))) in
    record { low = d.0; high = d.1 }

-- the halves of the number, without what makes its bytes digits, and what they say of the bytes
pub record Eight (bytes : List ℕ) (x : ℕ) : Type 0 where
  pub low : AreFour (x % 4_294_967_296)
  pub high : AreFour (x / 4_294_967_296)
  pub reads : digits 8 bytes ≡ Some ((first_two (x % 4_294_967_296) * 100 + last_two (x % 4_294_967_296)) * 10_000 + (first_two (x / 4_294_967_296) * 100 + last_two (x / 4_294_967_296)), drop 8 bytes)

halves : (x low high : ℕ) → (808_464_432 ≤ low) × (low < 2 ^ 32) → (808_464_432 ≤ high) × (high < 2 ^ 32) → x + 3_472_328_296_227_680_304 ≡ low + high * 4_294_967_296
    → (x % 4_294_967_296 + 808_464_432 ≡ low) × (x / 4_294_967_296 + 808_464_432 ≡ high)
halves x low high h k is = (omega arith, omega arith)

pub eight_read : (bytes : List ℕ) (x : ℕ) → 8 ≤ length bytes → ((k : ℕ) → k < 8 → HasDigit bytes k) → x + 3_472_328_296_227_680_304 ≡ chunk (take 8 bytes) → Eight bytes x
eight_read bytes x le d is =
    let pair : (k : ℕ) → k < 7 → HasPair bytes k = λ k lt. record { room = omega arith; first = d k (omega arith); second = d (k + 1) (omega arith) } in
    let p0 = pair 0 (lit< tt) in
    let p2 = pair 2 (lit< tt) in
    let p4 = pair 4 (lit< tt) in
    let p6 = pair 6 (lit< tt) in
    let parts = halves x (four_bytes bytes 0) (four_bytes bytes 4) (four_bounds bytes 0 p0 p2) (four_bounds bytes 4 p4 p6) (omega (arith, is, chunk_eight bytes le)) in
    let one = pairs_there _ bytes 0 p0 p2 parts.0 in
    let other = pairs_there _ bytes 4 p4 p6 parts.1 in
    record {
      low = one.are;
      high = other.are;
      reads = digits_eight bytes ∙ ap (joined 10_000 (digits 4)) (four_there bytes 0 _ _ one.first one.second) ∙ rw (four_there bytes 4 _ _ other.first other.second) refl;
    }

pub eight_said : (bytes : List ℕ) (w x : ℕ) → w ≡ chunk (take 8 bytes) → 8 ≤ length bytes → ((k : ℕ) → get_or bytes k 0 < 256) → x + 3_472_328_296_227_680_304 ≡ w → AreEightDigits w → Eight bytes x
eight_said bytes w x e le fit above test = eight_read bytes x le (eight_there bytes le fit (rw e at test)) (above ∙ e)
