-- Pieces: each cuts a prefix off a text, where it has such a prefix, and tells its value and the rest.
use Rattle.std.specs.Prelude.{ℕ, zero, suc, ◌==◌, Bool, nat_lt, List, [], ◌∷◌, length, Option, Some, None, option_map, if◌then◌else◌}
use Rattle.std.specs.Borrow.{Bor}

abbrev pub Piece : Type 0 → Type 0
Piece A = List ℕ → Option (A × List ℕ)

-- what a function cut off, with the bytes after the reference
abbrev pub cut_view : {A : Type 0} → Option (A × Bor (List ℕ)) → Option (A × List ℕ)
cut_view r = option_map (λ p. (p.0, p.1.now)) r

-- what stands after what a function cut off, which tells no value
abbrev pub rest_view : Option (Bor (List ℕ)) → Option (List ℕ)
rest_view r = option_map (λ rest. rest.now) r

-- what stands after a piece
abbrev pub rest_of : {A : Type 0} → Option (A × List ℕ) → Option (List ℕ)
rest_of r = option_map (λ p. p.1) r

abbrev pub then_cut : {A B : Type 0} → Option (A × List ℕ) → (A → Piece B) → Option (B × List ℕ)
then_cut None f = None
then_cut (Some x) f = f x.0 x.1

-- one piece, and then another
infixl 10 ◌>>=◌
abbrev pub ◌>>=◌ : {A B : Type 0} → Piece A → (A → Piece B) → Piece B
(p >>= f) text = then_cut (p text) f

infixl 10 ◌>>◌
abbrev pub ◌>>◌ : {A B : Type 0} → Piece A → Piece B → Piece B
(p >> q) text = then_cut (p text) (λ _. q)

-- no more bytes, and a value
abbrev pub give : {A : Type 0} → A → Piece A
give x text = Some (x, text)

-- how many bytes are left
abbrev pub left : Piece ℕ
left text = Some (length text, text)

-- a byte that is due
unfoldable pub byte : ℕ → Piece (Unit {0})
byte wanted [] = None
byte wanted (c ∷ rest) = if c == wanted then Some (tt, rest) else None

-- one piece after a byte, where the text begins with it, and else another
unfoldable pub after_byte : {A : Type 0} → ℕ → Piece A → Piece A → Piece A
after_byte wanted one other [] = other []
after_byte wanted one other (c ∷ rest) = if c == wanted then one rest else other (c ∷ rest)

-- the text without the bytes at its start that pass
unfoldable pub without : (ℕ → Bool) → List ℕ → List ℕ
without passes [] = []
without passes (c ∷ rest) = if passes c then without passes rest else c ∷ rest

-- one more value of several, or the last ones
pub data Turn (A : Type 0) : Type 0 where
  another : A → Turn A
  last : List A → Turn A

abbrev pub with_first : {A : Type 0} → A → Option (List A × List ℕ) → Option (List A × List ℕ)
with_first x more = option_map (λ p. (x ∷ p.0, p.1)) more

-- what comes of a turn that began with so many bytes left, of which it has to take one at least
abbrev pub then_more : {A : Type 0} → Piece (List A) → ℕ → Option (Turn A × List ℕ) → Option (List A × List ℕ)
then_more more room None = None
then_more more room (Some (another x, rest)) = if nat_lt (length rest) room then with_first x (more rest) else None
then_more more room (Some (last xs, rest)) = Some (xs, rest)

-- turn after turn up to the last, fewer than so many
abbrev pub turns : {A : Type 0} → ℕ → Piece (Turn A) → Piece (List A)
turns zero turn text = None
turns (suc n) turn text = then_more (turns n turn) (length text) (turn text)

-- turn after turn up to the last
unfoldable pub repeated : {A : Type 0} → Piece (Turn A) → Piece (List A)
repeated turn text = turns (suc (length text)) turn text
