-- What tests of numbers say.
use Rattle.std.proofs.Common.{◌≡◌, Bool, true, false}
use Rattle.std.specs.Prelude.{if◌then◌else◌}
pub use Rattle.std.proofs.lemmas.Bool.{and_parts as both, or_cases as one, not-true as is_not, ltb-true as less, leb-true as at_most, eqb-true as same, ltb-false as not_less, leb-false as not_at_most}
use Rattle.std.proofs.Common.{arith}
use Rattle.std.proofs.lemmas.Bool.Decides.{nat_tests}

pub when : (b x y : Bool) → b ≡ true → (if b then x else y) ≡ true → x ≡ true
when b x y is e = grind (arith, nat_tests)

pub otherwise : (b x y : Bool) → b ≡ false → (if b then x else y) ≡ true → y ≡ true
otherwise b x y is e = grind (arith, nat_tests)
