-- Tests and sums of eight bytes at once.
use Rattle.std.proofs.Common.{◌≡◌, ℕ, zero, suc, ◌+◌, ◌*◌, ◌/◌, ◌<◌, ◌≤◌, List, [], ◌∷◌, length, get_or, take, drop, refl, sym, ap, ◌∙◌, arith, lit<}
use Rattle.std.specs.Int.Bits.{bit_and}
use Rattle.std.proofs.lemmas.List.{drop_more}
use Rattle.std.proofs.lemmas.Nat.{and_block, and_le_r}
use Rattle.std.proofs.lemmas.Nat.Bits.{and_high_mask}
use Rattle.parsing_combinator.specs.Chunks.{chunk}

-- a test of the lowest byte and of the rest
pub record Split (x b y m q p : ℕ) : Type 0 where
  pub low : bit_and b m ≡ p
  pub high : bit_and x y ≡ q

pub split : (x b y m q p : ℕ) → b < 256 → m < 256 → p < 256 → bit_and (x * 256 + b) (y * 256 + m) ≡ q * 256 + p → Split x b y m q p
split x b y m q p byte mask small e =
    let block : bit_and (x * 256 + b) (y * 256 + m) ≡ bit_and x y * 256 + bit_and b m = and_block 8 x y b m byte mask in
    record { low = omega (arith, and_le_r b m, block, e); high = omega (arith, and_le_r b m, block, e) }

-- a digit, by its high half and that of six more
pub digit_lane : (b : ℕ) → b < 256 → bit_and b 240 ≡ 48 → bit_and (b + 6) 240 ≡ 48 → (48 ≤ b) × (b ≤ 57)
digit_lane b byte here more =
    let low : b / 16 * 16 ≡ 48 = sym (and_high_mask 8 4 (lit< tt) b byte) ∙ here in
    let high : (b + 6) / 16 * 16 ≡ 48 = sym (and_high_mask 8 4 (lit< tt) (b + 6) (omega arith)) ∙ more in
    (omega arith, omega arith)

-- the high half of a digit
pub half_lane : (b : ℕ) → b < 256 → bit_and b 240 ≡ 48 → (48 ≤ b) × (b < 64)
half_lane b byte here =
    let low : b / 16 * 16 ≡ 48 = sym (and_high_mask 8 4 (lit< tt) b byte) ∙ here in
    (omega arith, omega arith)

-- so many from a place on, one by one
abbrev pub spelled : ℕ → ℕ → List ℕ → List ℕ
spelled zero i xs = []
spelled (suc n) i xs = get_or xs i 0 ∷ spelled n (i + 1) xs

pub spelled_is : (n i : ℕ) (xs : List ℕ) → i + n ≤ length xs → take n (drop i xs) ≡ spelled n i xs
spelled_is zero i xs le = refl
spelled_is (suc n) i xs le = ap (take (suc n)) (drop_more xs i 0 (omega (arith, le))) ∙ ap (λ t. get_or xs i 0 ∷ t) (spelled_is n (i + 1) xs (omega (arith, le)))

-- the bytes of a number
pub chunk_eight : (bytes : List ℕ) → 8 ≤ length bytes → chunk (take 8 bytes) ≡ get_or bytes 0 0 + get_or bytes 1 0 * 256 + get_or bytes 2 0 * 65_536 + get_or bytes 3 0 * 16_777_216 + get_or bytes 4 0 * 4_294_967_296 + get_or bytes 5 0 * 1_099_511_627_776 + get_or bytes 6 0 * 281_474_976_710_656 + get_or bytes 7 0 * 72_057_594_037_927_936
unfolding chunk
chunk_eight bytes le = ap chunk (spelled_is 8 0 bytes le) ∙ omega arith

-- all of them bytes
abbrev pub AreBytes : List ℕ → Type 0
AreBytes [] = Unit {0}
AreBytes (b ∷ bs) = (b < 256) × AreBytes bs

pub are_bytes : (bytes : List ℕ) → ((k : ℕ) → get_or bytes k 0 < 256) → AreBytes bytes
are_bytes [] fit = tt
are_bytes (b ∷ bs) fit = (fit 0, are_bytes bs (λ k. fit (suc k)))

pub take_fit : (n : ℕ) (bytes : List ℕ) → ((k : ℕ) → get_or bytes k 0 < 256) → (k : ℕ) → get_or (take n bytes) k 0 < 256
take_fit zero bytes fit k = lit< tt
take_fit (suc n) [] fit k = lit< tt
take_fit (suc n) (b ∷ bs) fit zero = fit 0
take_fit (suc n) (b ∷ bs) fit (suc k) = take_fit n bs (λ j. fit (suc j)) k
