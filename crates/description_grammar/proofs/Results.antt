-- Choices, and tests.
use Rattle.std.proofs.Common.{◌≡◌, ℕ, ◌≤◌, ◌<◌, Bool, true, false, not, eqb, refl, arith, inl, inr, ◌⊎◌}
use Rattle.std.specs.Prelude.{◌||◌, ◌&&◌}
use Rattle.std.proofs.lemmas.Bool.Decides.{nat_tests}

-- ---- tests

pub not_first : (a b : Bool) → (not a && b) ≡ true → (a ≡ false) × (b ≡ true)
not_first true b h = absurd cc
not_first false b h = (refl, h)

pub or_is : (a b c : Bool) → (a || b || c) ≡ true → (a ≡ true) ⊎ (b ≡ true) ⊎ (c ≡ true)
or_is true b c h = inl refl
or_is false true c h = inr (inl refl)
or_is false false true h = inr (inr refl)
or_is false false false h = absurd cc

pub lt_of : (k n : ℕ) → k ≤ n → eqb k n ≡ false → k < n
lt_of k n le e = grind (arith, nat_tests)

pub above : (k : ℕ) → eqb k 0 ≡ false → 0 < k
above k e = grind (arith, nat_tests)

pub differs : (k n : ℕ) → k < n → eqb k n ≡ false
differs k n lt = grind (arith, nat_tests)

pub not_zero : (k : ℕ) → 0 < k → eqb k 0 ≡ false
not_zero k lt = grind (arith, nat_tests)
