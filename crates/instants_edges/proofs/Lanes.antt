-- What bits of vectors of 16 bytes say of each lane.
use Rattle.std.proofs.Common.{◌≡◌, ℕ, ◌<◌, Bool, true, false, cond, List, length, get_or, map, refl, sym, ap, ◌∙◌, arith}
use Rattle.std.specs.Int.{bit_at}
use Rattle.std.specs.Simd.Lanes.{mask_l}
use Rattle.std.proofs.lemmas.Simd.{bit_mask_l}
use Rattle.std.proofs.lemmas.List.{get_or-map}

none_where : (b : Bool) → cond {A = ℕ} b 1 0 ≡ 0 → b ≡ false
none_where true h = absurd (omega (arith, h))
none_where false h = refl

-- a bit for each lane that passes a test
pub bits_passing : (test : ℕ → Bool) (v : List ℕ) → length v ≡ 16 → (m : ℕ) → m ≡ mask_l (map test v) → (k : ℕ) → k < 16 → bit_at m k ≡ 0 → test (get_or v k 0) ≡ false
bits_passing test v long m mask k lt none =
    let bit : bit_at m k ≡ cond (test (get_or v k 0)) 1 0 = rw mask (bit_mask_l (map test v) k ∙ ap (λ (b : Bool). cond {A = ℕ} b 1 0) (get_or-map test v k 0 false (omega (arith, long, lt)))) in
    none_where (test (get_or v k 0)) (sym bit ∙ none)
