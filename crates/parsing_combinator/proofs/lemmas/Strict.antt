-- A strict reading against one that is not: the same where all numbers are in range.
use Rattle.std.proofs.Common.{◌≡◌, ℕ, Bool, true, false, List, Option, Result, Ok, Err, refl, arith}
use Rattle.std.specs.Borrow.{Bor}
use Rattle.std.specs.Prelude.{◌↔◌, IfOk}
use Rattle.std.specs.Int.{IsInRange}
use Rattle.std.proofs.lemmas.Bool.{and_parts, leb-true}
use Rattle.std.proofs.lemmas.Bool.Decides.{nat_tests}
use Rattle.parsing_combinator.specs.Fault.{Fault}
use Rattle.parsing_combinator.specs.FaultOf.{Gives, reading_fault}
use Rattle.parsing_combinator.specs.Readings.{Reading, then_read, require, entered, within}
use Rattle.parsing_combinator.specs.declared.fault.ParseFromDescription.{ParseFromDescription}

-- a strict result is the other one where that passes, and a fault where it does not
abbrev pub narrow : {A : Type 0} → (A → Type 0) → Result (A × List ℕ) Fault → Result (A × List ℕ) Fault → Type 0
narrow P (Ok x) other = (other ≡ Ok x) × P x.0
narrow P (Err e) (Ok y) = ¬ P y.0
narrow P (Err e) (Err f) = Unit {0}

pub record Narrows {A : Type 0} (P : A → Type 0) (strict other : Result (A × List ℕ) Fault) : Type 0 where
  pub holds : narrow P strict other

-- what was read does not pass
abbrev pub miss : {A : Type 0} → (A → Type 0) → Result (A × List ℕ) Fault → Type 0
miss P (Ok x) = ¬ P x.0
miss P (Err e) = Unit {0}

pub record Misses {A : Type 0} (P : A → Type 0) (r : Result (A × List ℕ) Fault) : Type 0 where
  pub holds : miss P r

-- what was read passes
pub record Says {A : Type 0} (P : A → Type 0) (r : Result (A × List ℕ) Fault) : Type 0 where
  pub holds : IfOk r (λ x. P x.0)

pub given : {A : Type 0} (P : A → Type 0) (x : A) (bytes : List ℕ) → P x → Narrows P (Ok (x, bytes)) (Ok (x, bytes))
given P x bytes h = record { holds = (refl, h) }

pub denied : {A : Type 0} (P : A → Type 0) (x : A) (bytes : List ℕ) → ¬ P x → Misses P (Ok (x, bytes))
denied P x bytes h = record { holds = h }

pub then_misses : {A B : Type 0} (Q : B → Type 0) (r : Result (A × List ℕ) Fault) (f : A → Reading B) → ((x : A) (bytes : List ℕ) → Misses Q (f x bytes)) → Misses Q (then_read r f)
then_misses Q r f h = grind (arith, nat_tests)

-- a part that is read in both ways
pub then_narrows : {A B : Type 0} (P : A → Type 0) (Q : B → Type 0) (strict other : Result (A × List ℕ) Fault) (f g : A → Reading B) → Narrows P strict other → ((x : A) (bytes : List ℕ) → P x → Narrows Q (f x bytes) (g x bytes)) → ((x : A) (bytes : List ℕ) → ¬ P x → Misses Q (g x bytes)) → Narrows Q (then_read strict f) (then_read other g)
then_narrows P Q strict other f g n h k = grind (arith, nat_tests)

-- a part that does not ask which way it is
pub same_then : {A B : Type 0} (P : A → Type 0) (Q : B → Type 0) (r : Result (A × List ℕ) Fault) (f g : A → Reading B) → Says P r → ((x : A) (bytes : List ℕ) → P x → Narrows Q (f x bytes) (g x bytes)) → Narrows Q (then_read r f) (then_read r g)
same_then P Q r f g p h = grind (arith, nat_tests)

pub plain_then : {A B : Type 0} (Q : B → Type 0) (r : Result (A × List ℕ) Fault) (f g : A → Reading B) → ((x : A) (bytes : List ℕ) → Narrows Q (f x bytes) (g x bytes)) → Narrows Q (then_read r f) (then_read r g)
plain_then Q r f g h = grind (arith, nat_tests)

-- a check of the strict reading alone
pub checked : {B : Type 0} (Q : B → Type 0) (b : Bool) (e : Fault) (f : Unit {0} → Reading B) (other : Result (B × List ℕ) Fault) (bytes : List ℕ) → (b ≡ true → Narrows Q (f tt bytes) other) → (b ≡ false → Misses Q other) → Narrows Q (then_read (require b e bytes) f) other
checked Q b e f other bytes h k = grind (arith, nat_tests)

pub entered_narrows : {A B : Type 0} (Q : B → Type 0) (o : Option (A × List ℕ)) (f g : A → Reading B) (p q : Reading B) (bytes : List ℕ) → ((x : A) (rest : List ℕ) → Narrows Q (f x rest) (g x rest)) → Narrows Q (p bytes) (q bytes) → Narrows Q (entered o f p bytes) (entered o g q bytes)
entered_narrows Q o f g p q bytes h k = grind (arith, nat_tests)

pub within_yes : (low high n : ℕ) → within true low high n ≡ true → IsInRange low high n
within_yes low high n e = let p = and_parts _ _ e in (leb-true _ _ p.0, leb-true _ _ p.1)

pub within_no : (low high n : ℕ) → within true low high n ≡ false → ¬ IsInRange low high n
within_no low high n e = λ p. grind (arith, nat_tests)

pub same_narrows : {A : Type 0} (P : A → Type 0) (r : Result (A × List ℕ) Fault) → Says P r → Narrows P r r
same_narrows P r h = grind (arith, nat_tests)

-- ---- what is said of parts that are read in one way

pub required_says : (b : Bool) (e : Fault) (bytes : List ℕ) → Says (λ x. b ≡ true) (require b e bytes)
required_says b e bytes = grind (arith, nat_tests)

-- ---- the whole

pub narrows_iff : {A : Type 0} (P : A → Type 0) (strict other : Result (A × List ℕ) Fault) → Narrows P strict other → (w : A) (rest : List ℕ) → (strict ≡ Ok (w, rest)) ↔ ((other ≡ Ok (w, rest)) × P w)
narrows_iff P strict other n w rest = grind (arith, nat_tests)

-- what a function returns that gives the strict reading
pub strict_passes : {A X : Type 0} (P : A → Type 0) (view : X → A) (result : Result (X × Bor (List ℕ)) ParseFromDescription) (strict other : Result (A × List ℕ) Fault) → Gives (λ x. (view x.0, x.1.now)) reading_fault result strict → Narrows P strict other → IfOk result (λ x. P (view x.0))
strict_passes P view result strict other given n = grind (arith, nat_tests)
