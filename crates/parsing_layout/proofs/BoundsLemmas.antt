-- One place of bounds after the other.
use Rattle.std.proofs.Common.{◌≡◌, ◌≤◌, ◌<◌, ◌∙◌, ℕ, zero, suc, Bool, cond, List, [], ◌∷◌, get_or, length, sym, arith}
use Rattle.std.specs.Int.Bits.{bit_and}
use Rattle.std.specs.Prelude.{nat_le, replicate, set}
use Rattle.std.proofs.lemmas.Bool.{le-leb}
use Rattle.std.proofs.lemmas.List.{ext_get_or}
use Rattle.std.proofs.lemmas.Simd.{get_or-zip2, get_or-replicate, length-zip2}
use lib.Lanes.{zip2}
use Rattle.parsing_layout.specs.Bounds.{Admits}
use Rattle.parsing_layout.specs.declared.bounds.Bounds.{Bounds}

-- what holds at each place, after one is set
pub set_each : {A : Type 0} (P : ℕ → A → Type 0) (xs : List A) (i : ℕ) (v default : A) → ((p : ℕ) → P p (get_or xs p default)) → P i v → (p : ℕ) → P p (get_or (set xs i v) p default)
set_each P [] i v default h k p = h p
set_each P (x ∷ xs) zero v default h k zero = k
set_each P (x ∷ xs) zero v default h k (suc p) = h (suc p)
set_each P (x ∷ xs) (suc i) v default h k zero = h zero
set_each P (x ∷ xs) (suc i) v default h k (suc p) = set_each (λ q. P (suc q)) xs i v default (λ q. h (suc q)) k p

-- a line is admitted where one place more has a range that its byte is in
pub admits_set : (whole : Bool) (b : Bounds) (line : List ℕ) (i low high : ℕ) → Admits whole b line → low ≤ get_or line i 0 → (get_or line i 0 < 256 → get_or line i 0 ≤ high)
    → Admits whole (record { low = set b.low i low; high = set b.high i high; longest = b.longest }) line
admits_set whole b line i low high h l k = record {
  lowest = set_each (λ p n. n ≤ get_or line p 0) b.low i low 0 h.lowest l;
  highest = set_each (λ p n. get_or line p 0 < 256 → get_or line p 0 ≤ n) b.high i high 255 h.highest k;
  longest = h.longest;
}

-- ---- sixteen places at once

abbrev is_at_most : ℕ → ℕ → ℕ
is_at_most a b = cond (nat_le a b) 255 0

-- where each lane passes both tests, all bits are set
pub all_pass : (low bytes high : List ℕ) → length low ≡ 16 → length bytes ≡ 16 → length high ≡ 16 → ((k : ℕ) → k < 16 → get_or low k 0 ≤ get_or bytes k 0) → ((k : ℕ) → k < 16 → get_or bytes k 0 ≤ get_or high k 0)
    → zip2 bit_and (zip2 is_at_most low bytes) (zip2 is_at_most bytes high) ≡ replicate 16 255
all_pass low bytes high l b h lowest highest =
    let one : length (zip2 is_at_most low bytes) ≡ 16 = length-zip2 is_at_most low bytes (l ∙ sym b) ∙ l in
    let two : length (zip2 is_at_most bytes high) ≡ 16 = length-zip2 is_at_most bytes high (b ∙ sym h) ∙ b in
    let all : length (zip2 bit_and (zip2 is_at_most low bytes) (zip2 is_at_most bytes high)) ≡ 16 = length-zip2 bit_and (zip2 is_at_most low bytes) (zip2 is_at_most bytes high) (one ∙ sym two) ∙ one in
    ext_get_or 0 _ (replicate 16 255) all (λ k lt.
    let few : k < 16 = omega (arith, all, lt) in
    get_or-zip2 bit_and (zip2 is_at_most low bytes) (zip2 is_at_most bytes high) k 0 0 0 (omega (arith, one, few)) (omega (arith, two, few))
    ∙ rw (get_or-zip2 is_at_most low bytes k 0 0 0 (omega (arith, l, few)) (omega (arith, b, few)), get_or-zip2 is_at_most bytes high k 0 0 0 (omega (arith, b, few)) (omega (arith, h, few)), le-leb _ _ (lowest k few), le-leb _ _ (highest k few)) (sym (get_or-replicate 16 k 255 0 few)))
