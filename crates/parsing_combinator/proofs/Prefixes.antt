-- What stands at the start of bytes, one by one.
use Rattle.std.proofs.Common.{◌≡◌, ℕ, List, ◌∷◌, true, Some, refl, arith, eqb}
use Rattle.std.proofs.lemmas.Bool.Decides.{nat_tests}
use Rattle.parsing_combinator.specs.Pieces.{byte, skip_of}

-- a byte at the start
pub byte_at : (p : ℕ) (rest : List ℕ) → byte p (p ∷ rest) ≡ Some (tt, rest)
unfolding skip_of
byte_at p rest = let e : eqb p p ≡ true = grind (arith, nat_tests) in rw e refl
