-- Turns one after the other, however many are allowed.
use Rattle.std.proofs.Common.{◌≡◌, refl, ℕ, zero, suc, ◌<◌, Bool, true, false, cond, nat_lt, List, length, Option, Some, None, ap, arith}
use Rattle.std.proofs.lemmas.Bool.Decides.{nat_tests}
use Rattle.instants_fields.specs.Pieces.{Piece, Turn, another, last, then_more, with_first, turns, repeated, rest_of}

if_true : {A : Type 0} (b : Bool) (x y z : A) → (b ≡ true → x ≡ y) → cond b x z ≡ cond b y z
if_true true x y z same = same refl
if_true false x y z same = refl

below : (m n : ℕ) → nat_lt m n ≡ true → m < n
below m n h = grind (arith, nat_tests)

-- the same comes of a turn, where the same comes of what is left
same_more : {A : Type 0} (one other : Piece (List A)) (room : ℕ) → ((rest : List ℕ) → length rest < room → one rest ≡ other rest) → (r : Option (Turn A × List ℕ)) → then_more one room r ≡ then_more other room r
same_more one other room same None = refl
same_more one other room same (Some (another x, rest)) = if_true (nat_lt (length rest) room) _ _ _ (λ h. ap (with_first x) (same rest (below (length rest) room h)))
same_more one other room same (Some (last xs, rest)) = refl

same_turns : {A : Type 0} (m n : ℕ) (turn : Piece (Turn A)) (text : List ℕ) → length text < m → length text < n → turns m turn text ≡ turns n turn text
same_turns zero n turn text a b = absurd (omega arith)
same_turns (suc m) zero turn text a b = absurd (omega arith)
same_turns (suc m) (suc n) turn text a b =
    same_more (turns m turn) (turns n turn) (length text) (λ rest h. same_turns m n turn rest (omega arith) (omega arith)) (turn text)

-- one turn, and then the others
pub one_turn : {A : Type 0} (turn : Piece (Turn A)) (text : List ℕ) → repeated turn text ≡ then_more (repeated turn) (length text) (turn text)
unfolding repeated
one_turn turn text =
    same_more (turns (length text) turn) (λ rest. turns (suc (length rest)) turn rest) (length text) (λ rest h. same_turns (length text) (suc (length rest)) turn rest h (omega arith)) (turn text)

-- what stands behind
abbrev pub rest_more : {A : Type 0} → (List ℕ → Option (List ℕ)) → ℕ → Option (Turn A × List ℕ) → Option (List ℕ)
rest_more more room None = None
rest_more more room (Some (another x, rest)) = cond (nat_lt (length rest) room) (more rest) None
rest_more more room (Some (last xs, rest)) = Some rest

first_behind : {A : Type 0} (x : A) (r : Option (List A × List ℕ)) → rest_of (with_first x r) ≡ rest_of r
first_behind x None = refl
first_behind x (Some p) = refl

behind_if : {A : Type 0} (b : Bool) (x : A) (r : Option (List A × List ℕ)) → rest_of (cond b (with_first x r) None) ≡ cond b (rest_of r) None
behind_if true x r = first_behind x r
behind_if false x r = refl

behind : {A : Type 0} (more : Piece (List A)) (room : ℕ) (r : Option (Turn A × List ℕ)) → rest_of (then_more more room r) ≡ rest_more (λ rest. rest_of (more rest)) room r
behind more room None = refl
behind more room (Some (another x, rest)) = behind_if (nat_lt (length rest) room) x (more rest)
behind more room (Some (last xs, rest)) = refl

-- what stands behind one turn and the others
pub rest_of_turn : {A : Type 0} (turn : Piece (Turn A)) (text : List ℕ) → rest_of (repeated turn text) ≡ rest_more (λ rest. rest_of (repeated turn rest)) (length text) (turn text)
rest_of_turn turn text = rw (one_turn turn text) (behind (repeated turn) (length text) (turn text))

pub if_below : {A : Type 0} (m n : ℕ) (x y : A) → m < n → cond (nat_lt m n) x y ≡ x
if_below m n x y h = let e : nat_lt m n ≡ true = grind (arith, nat_tests) in rw e
