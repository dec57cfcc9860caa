-- A shape after a sign, by the sign.
use Rattle.std.proofs.Common.{◌≡◌, ℕ, Bool, true, false, cond, List, [], ◌∷◌, length, take, drop, Option, Some, None, refl, ◌∙◌}
use Rattle.std.specs.Prelude.{option_map, if◌then◌else◌, ◌==◌}
use Rattle.parsing_combinator.specs.Pieces.{Piece, sign, byte_of}
use Rattle.parsing_combinator.specs.Shape.{Shape, prefix, taken, nothing, is_sign, signed}
use Rattle.parsing_combinator.specs.Numbers.{signed_if}
use Rattle.parsing_combinator.proofs.Longest.{greatest_map, greatest_same, taken_same, taken_after, taken_nothing}
use Rattle.std.proofs.Common.{arith}
use Rattle.std.proofs.lemmas.Bool.Decides.{nat_tests}

-- what was taken, under a sign
abbrev pub under : {A : Type 0} → Bool → Option (A × List ℕ) → Option ((Bool × A) × List ℕ)
under negative r = option_map (λ x. ((negative, x.0), x.1)) r

-- a shape whose values are told with a mark
abbrev pub marked : {A : Type 0} → Bool → Shape A → Shape (Bool × A)
marked negative shape text = option_map (λ x. (negative, x)) (shape text)

map_twice : {A : Type 0} → (negative : Bool) (o : Option A) (rest : List ℕ) → option_map (λ y. (y, rest)) (option_map (λ x. (negative, x)) o) ≡ under negative (option_map (λ x. (x, rest)) o)
map_twice negative o rest = grind (arith, nat_tests)

pub taken_marked : {A : Type 0} → (negative : Bool) (shape : Shape A) (bytes : List ℕ) → taken (marked negative shape) bytes ≡ under negative (taken shape bytes)
unfolding taken
taken_marked negative shape bytes =
    let same = greatest_same (prefix (marked negative shape) bytes) (λ k. under negative (prefix shape bytes k)) (length bytes) (λ j le. map_twice negative (shape (take j bytes)) (drop j bytes)) in
    same ∙ greatest_map (λ x. ((negative, x.0), x.1)) (prefix shape bytes) (length bytes)

bare_at : {A : Type 0} → (after bare : Shape A) (c : ℕ) (cs : List ℕ) (j : ℕ) → is_sign c ≡ false → signed after bare (take j (c ∷ cs)) ≡ marked false bare (take j (c ∷ cs))
unfolding signed
bare_at after bare c cs j e = grind (arith, nat_tests)

after_at : {A : Type 0} → (after bare : Shape A) (c : ℕ) (text : List ℕ) → is_sign c ≡ true → signed after bare (c ∷ text) ≡ marked (c == 45) after text
unfolding signed
after_at after bare c text e = rw e refl

empty_none : {A : Type 0} → (after bare : Shape A) → bare [] ≡ None → signed after bare [] ≡ None
unfolding signed
empty_none after bare none = rw none refl

empty_at : {A : Type 0} → (after bare : Shape A) (j : ℕ) → signed after bare (take j []) ≡ marked false bare (take j [])
unfolding signed
empty_at after bare j = grind (arith, nat_tests)

-- ---- where a sign may be due

abbrev pub by_sign_if : {A : Type 0} → Option (ℕ × List ℕ) → Bool → Piece A → Piece A → List ℕ → Option ((Bool × A) × List ℕ)
by_sign_if (Some x) mandatory after bare bytes = under (x.0 == 45) (after x.1)
by_sign_if None true after bare bytes = None
by_sign_if None false after bare bytes = under false (bare bytes)

abbrev bare_if : Bool → Shape ℕ → Shape ℕ
bare_if mandatory bare = if mandatory then nothing else bare

none_if : (mandatory : Bool) (bare : Shape ℕ) → bare [] ≡ None → bare_if mandatory bare [] ≡ None
unfolding nothing
none_if mandatory bare none = grind (arith, nat_tests)

taken_bare : (mandatory : Bool) (bare : Shape ℕ) (after : Piece ℕ) (bytes : List ℕ) → taken (marked false (bare_if mandatory bare)) bytes ≡ by_sign_if None mandatory after (taken bare) bytes
taken_bare mandatory bare after bytes = grind (arith, nat_tests, taken_marked, taken_nothing)

here : (mandatory b : Bool) (after bare : Shape ℕ) (c : ℕ) (cs : List ℕ) → bare [] ≡ None → is_sign c ≡ b → taken (signed after (bare_if mandatory bare)) (c ∷ cs) ≡ by_sign_if (cond b (Some (c, cs)) None) mandatory (taken after) (taken bare) (c ∷ cs)
here mandatory true after bare c cs none e = taken_after (signed after (bare_if mandatory bare)) (marked (c == 45) after) c cs (empty_none after _ (none_if mandatory bare none)) (λ text. after_at after _ c text e) ∙ taken_marked (c == 45) after cs
here mandatory false after bare c cs none e = taken_same (signed after (bare_if mandatory bare)) (marked false (bare_if mandatory bare)) (c ∷ cs) (λ j le. bare_at after _ c cs j e) ∙ taken_bare mandatory bare (taken after) (c ∷ cs)

pub taken_signed_if : (mandatory : Bool) (after bare : Shape ℕ) (bytes : List ℕ) → bare [] ≡ None → taken (signed_if mandatory after bare) bytes ≡ by_sign_if (sign bytes) mandatory (taken after) (taken bare) bytes
unfolding signed_if byte_of
taken_signed_if mandatory after bare bytes none = grind (arith, nat_tests, taken_same, empty_at, taken_bare, here)
