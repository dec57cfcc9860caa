-- How large the parts of a quotient get.
use Rattle.std.proofs.Common.{arith, ◌≢◌, refl, zero, suc, ◌<◌, ◌≤◌, ◌^◌, ℤ, pos, negsuc, unsigned_abs}
use Rattle.std.specs.Prelude.{int_div, int_rem}
use Rattle.std.proofs.Math.Nat.{div-le_self}
use Rattle.std.proofs.lemmas.Int.{ints, rem_below}

pub nonzero_abs : (d : ℤ) → d ≢ pos 0 → 0 < unsigned_abs d
nonzero_abs (pos zero) h = absurd (h refl)
nonzero_abs (pos (suc k)) h = omega arith
nonzero_abs (negsuc k) h = omega arith

pub div_le : (a d : ℤ) → unsigned_abs (int_div a d) ≤ unsigned_abs a
div_le (pos a) (pos b) = div-le_self a b
div_le (pos a) (negsuc b) = let small = div-le_self a (suc b) in omega (arith, ints, small)
div_le (negsuc a) (pos b) = let small = div-le_self (suc a) b in omega (arith, ints, small)
div_le (negsuc a) (negsuc b) = div-le_self (suc a) (suc b)

-- what is left of the seconds
pub rest_bound : (s d : ℤ) → d ≢ pos 0 → unsigned_abs d < 2 ^ 32 → unsigned_abs (int_rem s d) < 2 ^ 32
rest_bound s d h small = let below = rem_below s d (nonzero_abs d h) in omega (arith, below)
