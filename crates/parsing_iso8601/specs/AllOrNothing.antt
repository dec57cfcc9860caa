-- Pieces one after another: where one of them has no prefix, neither have all.
use Rattle.std.specs.Prelude.{ℕ, Bool, List, Option, Some, None, if◌then◌else◌}
use Rattle.parsing_combinator.specs.Pieces.{Piece}

abbrev pub then_cut : {A B : Type 0} → Option (A × List ℕ) → (A → Piece B) → Option (B × List ℕ)
then_cut None f = None
then_cut (Some x) f = f x.0 x.1

infixl 10 ◌>>=◌
abbrev pub ◌>>=◌ : {A B : Type 0} → Piece A → (A → Piece B) → Piece B
(p >>= f) bytes = then_cut (p bytes) f

infixl 10 ◌>>◌
abbrev pub ◌>>◌ : {A B : Type 0} → Piece A → Piece B → Piece B
(p >> q) bytes = then_cut (p bytes) (λ _. q)

-- nothing more, and a value
abbrev pub give : {A : Type 0} → A → Piece A
give x bytes = Some (x, bytes)

-- no bytes have such a prefix
abbrev pub refuse : {A : Type 0} → Piece A
refuse bytes = None

-- a check
abbrev pub require : Bool → Piece (Unit {0})
require b bytes = if b then Some (tt, bytes) else None

-- where the first piece is there, all that follows it is due
abbrev pub entered : {A B : Type 0} → Option (A × List ℕ) → (A → Piece B) → Piece B → Piece B
entered None due other bytes = other bytes
entered (Some x) due other bytes = due x.0 x.1

abbrev pub if_there : {A B : Type 0} → Piece A → (A → Piece B) → Piece B → Piece B
if_there first due other bytes = entered (first bytes) due other bytes
