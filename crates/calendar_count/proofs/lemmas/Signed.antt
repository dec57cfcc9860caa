-- What `omega` needs beside std's `ints` for division of signed numbers by a positive number. `ints` reads a number z as `up z - down z`, the ℕ parts above and below 0; the laws here say that one part is 0, and what a Euclidean division leaves of the parts.
use Rattle.std.proofs.Common.{◌≡◌, ℕ, ◌+◌, ◌*◌, ◌<◌, ◌⊎◌, inl, inr, refl, arith, ℤ, pos, negsuc}
use Rattle.std.specs.Int.{int_div_euclid, int_rem_euclid}
use Rattle.std.proofs.lemmas.Int.{ints}
use borrow.Author.Differences.{up, down}

-- a number has no part above 0 or none below: cite it at a number whose sign decides the goal
pub one_sided : (z : ℤ) → (up z ≡ 0) ⊎ (down z ≡ 0)
one_sided (pos n) = inr refl
one_sided (negsuc n) = inl refl

-- a remainder that is never negative, and the quotient that goes with it
pub euclid_parts : (z : ℤ) (k : ℕ) → 0 < k → (up (int_rem_euclid z (pos k)) < k) × (down (int_rem_euclid z (pos k)) ≡ 0) × (up (int_div_euclid z (pos k)) * k + up (int_rem_euclid z (pos k)) + down z ≡ down (int_div_euclid z (pos k)) * k + up z)
euclid_parts (pos n) k h = omega arith
euclid_parts (negsuc n) k h = omega arith

-- order, sums, differences, negation, products with constants, `/` and `%` toward zero, casts and absolute values by `ints`, and Euclidean division
pub ruleset signed = (ints, euclid_parts)
