-- What pieces that were read stand in their bytes.
use Rattle.std.proofs.Common.{◌≡◌, ℕ, ◌<◌, ◌≤◌, Bool, true, List, ◌∷◌, drop, take, Option, Some, None, refl, sym, arith}
use Rattle.std.specs.Prelude.{◌==◌, ◌||◌, nat_le}
use Rattle.std.proofs.lemmas.Bool.Decides.{nat_tests}
use Rattle.base.specs.Bytes.{plus, hyphen}
use Rattle.parsing_combinator.specs.Pieces.{digits, byte, byte_of, skip_of, sign, digit_count, digit_run, fraction, nanoseconds_of}
use Rattle.parsing_combinator.proofs.Decimal.{count_drop}
use Rattle.parsing_combinator.proofs.FractionDigits.{none_there}
use Rattle.parsing_layout.specs.Layout.{exact_fraction}
use Rattle.parsing_layout.proofs.LayoutLemmas.{numbered}
use Rattle.parsing_layout.proofs.TestLemmas.{same}

pub inside : {A : Type 0} → (x y : A) → Some x ≡ Some y → x ≡ y
inside x y e = cc

-- a literal that was read
pub literal_said : {n : ℕ} (o : Option (Unit {0} × List ℕ)) (after : List ℕ) → numbered (λ _. 0) o ≡ Some (n, after) → o ≡ Some (tt, after)
literal_said o after e = grind (arith, nat_tests)

-- ---- a fraction

pub exact_said : (b : Bool) (bytes rest : List ℕ) (count n : ℕ) → nat_le count (digit_count bytes) ≡ b → exact_fraction count bytes ≡ Some (n, rest) → (count ≤ digit_count bytes) × (nanoseconds_of (take count bytes) ≡ n) × (drop count bytes ≡ rest)
unfolding exact_fraction
exact_said b bytes rest count n is e = grind (arith, nat_tests)

pub fraction_read : (bytes rest : List ℕ) (count n : ℕ) → 0 < count → exact_fraction count bytes ≡ Some (n, rest) → digits 1 rest ≡ None → fraction bytes ≡ Some (n, rest)
unfolding fraction digit_run
fraction_read bytes rest count n some e none =
    let said = exact_said _ bytes rest count n refl e in
    let left = none_there rest none in
    grind (arith, nat_tests, count_drop)

-- ---- bytes

-- the byte that a piece tells, or cuts off, and what follows it
pub skip_is : (p : ℕ → Bool) (bytes rest : List ℕ) → skip_of p bytes ≡ Some (tt, rest) → (c : ℕ) × (bytes ≡ c ∷ rest) × (p c ≡ true)
unfolding skip_of
skip_is p bytes rest e = grind (arith, nat_tests)

pub byte_is : (c : ℕ) (bytes rest : List ℕ) → byte c bytes ≡ Some (tt, rest) → bytes ≡ c ∷ rest
byte_is c bytes rest e = let k = skip_is (λ x. x == c) bytes rest e in rw (sym (same k.0 c k.2)) k.1

-- a sign, and what follows it
pub record SignIs (bytes : List ℕ) (mark : ℕ) (rest : List ℕ) : Type 0 where
  pub all : bytes ≡ mark ∷ rest
  pub is : ((mark == plus) || (mark == hyphen)) ≡ true

pub sign_is : (bytes rest : List ℕ) (mark : ℕ) → sign bytes ≡ Some (mark, rest) → SignIs bytes mark rest
unfolding byte_of
sign_is bytes rest mark e = grind (arith, nat_tests)
