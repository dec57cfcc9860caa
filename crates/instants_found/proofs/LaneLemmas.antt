-- What bits of vectors of 16 bytes say of each lane.
use Rattle.std.proofs.Common.{◌≡◌, ◌⊎◌, inl, inr, ℕ, ◌+◌, ◌<◌, ◌==◌, min, max, bit_and, Bool, true, false, cond, List, length, get_or, drop, map, refl, sym, ap, ◌∙◌, arith, w8, ◌-◌, ◌^◌, ◌%◌, replicate}
use Rattle.std.specs.Prelude.{bit_or}
use lib.Lanes.{zip2, top}
use mir.Val.{bits, hbits}
use Rattle.std.specs.Int.{bit_at}
use Rattle.std.specs.Simd.Lanes.{mask_l}
use Rattle.std.proofs.lemmas.Simd.{bit_mask_l, bitmask_splat}
use Rattle.std.proofs.lemmas.Bool.{cases_lt}
use Rattle.std.proofs.lemmas.List.{get_or-map, get_or-drop}
use Rattle.std.proofs.lemmas.Nat.Bits.{bit_at_and, bit_at_ones, bit_at_or}
use Rattle.instants_found.specs.Keys.{stands_at}
use Rattle.instants_found.specs.Lanes.{AreAllOrNone}
use Rattle.instants_found.specs.declared.key.Key.{Key}

-- a comparison with a byte that is spread over the lanes
pub compared : (t : ℕ → ℕ → Bool) (v lanes : List ℕ) (byte : ℕ) → lanes ≡ replicate 16 byte → length v ≡ 16 → mask_l (map (top (hbits w8)) (zip2 (λ a b. cond (t a b) (2 ^ bits w8 - 1) 0) v lanes)) % 2 ^ 64 ≡ mask_l (map (λ x. t x byte) v)
compared t v lanes byte is long = rw is (bitmask_splat w8 t v 16 byte long (omega arith))

-- ---- bits of two numbers

min_none : (a b : ℕ) → min a b ≡ 0 → (a ≡ 0) ⊎ (b ≡ 0)
min_none a b e = elim (cases_lt 0 a) [ inl some ↦ inr (omega (arith, e, some)) | inr none ↦ inl (omega (arith, none)) ]

pub both_none : (a b k : ℕ) → bit_at (bit_and a b) k ≡ 0 → (bit_at a k ≡ 0) ⊎ (bit_at b k ≡ 0)
both_none a b k e = min_none (bit_at a k) (bit_at b k) (sym (bit_at_and a b k) ∙ e)

pub either_none : (a b k : ℕ) → bit_at (bit_or a b) k ≡ 0 → (bit_at a k ≡ 0) × (bit_at b k ≡ 0)
either_none a b k e = let most : max (bit_at a k) (bit_at b k) ≡ 0 = sym (bit_at_or a b k) ∙ e in (omega (arith, most), omega (arith, most))

pub all_set : AreAllOrNone 65_535
all_set k lt none = absurd (omega (arith, bit_at_ones 16 k lt, none))

-- a key after the place of a lane
pub stands_not : (key : Key) (line over v : List ℕ) (at : ℕ) → over ≡ drop key.place line → ((k : ℕ) → k < 16 → get_or v k 0 ≡ get_or over (at + k) 0) → (k : ℕ) → k < 16 → (get_or v k 0 == key.byte) ≡ false → stands_at key line (at + k) ≡ false
stands_not key line over v at from is k lt none =
    let place : key.place + (at + k) ≡ at + k + key.place = omega arith in
    let same : get_or v k 0 ≡ get_or line (at + k + key.place) 0 = is k lt ∙ ap (λ (xs : List ℕ). get_or xs (at + k) 0) from ∙ get_or-drop key.place line (at + k) 0 ∙ ap (λ (n : ℕ). get_or line n 0) place in
    ap (λ (n : ℕ). n == key.byte) (sym same) ∙ none
