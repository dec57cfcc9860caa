-- Pieces: each cuts a prefix off a text, where it has such a prefix, and tells its value and the rest.
use Rattle.std.specs.Prelude.{ℕ, Bool, ◌==◌, ◌&&◌, nat_le, List, [], ◌∷◌, take, drop, Option, Some, None, option_map, if◌then◌else◌}
use Rattle.std.specs.List.{prefix_len}
use Rattle.std.specs.Char.{is_ascii_digit}
use Rattle.std.specs.Str.Parse.{digits_value}
use Rattle.std.specs.Borrow.{Bor}

abbrev pub Piece : Type 0 → Type 0
Piece A = List ℕ → Option (A × List ℕ)

-- what a function cut off, with the bytes after the reference
abbrev pub cut_view : {A : Type 0} → Option (A × Bor (List ℕ)) → Option (A × List ℕ)
cut_view r = option_map (λ p. (p.0, p.1.now)) r

-- the same for a value that is bytes
abbrev pub run_view : Option (Bor (List ℕ) × Bor (List ℕ)) → Option (List ℕ × List ℕ)
run_view r = option_map (λ p. (p.0.now, p.1.now)) r

-- what stands after what a function cut off, which tells no value
abbrev pub rest_view : Option (Bor (List ℕ)) → Option (Unit {0} × List ℕ)
rest_view r = option_map (λ rest. (tt, rest.now)) r

abbrev pub then_cut : {A B : Type 0} → Option (A × List ℕ) → (A → Piece B) → Option (B × List ℕ)
then_cut None f = None
then_cut (Some x) f = f x.0 x.1

-- one piece, and then another
infixl 10 ◌>>=◌
abbrev pub ◌>>=◌ : {A B : Type 0} → Piece A → (A → Piece B) → Piece B
(p >>= f) text = then_cut (p text) f

infixl 10 ◌>>◌
abbrev pub ◌>>◌ : {A B : Type 0} → Piece A → Piece B → Piece B
(p >> q) text = then_cut (p text) (λ _. q)

-- no more bytes, and a value
abbrev pub give : {A : Type 0} → A → Piece A
give x text = Some (x, text)

-- one piece where the text begins with a byte, and else another
unfoldable pub at_byte : {A : Type 0} → ℕ → Piece A → Piece A → Piece A
at_byte byte one other [] = other []
at_byte byte one other (c ∷ rest) = if c == byte then one (c ∷ rest) else other (c ∷ rest)

-- one piece after a byte, where the text begins with it, and else another
unfoldable pub after_byte : {A : Type 0} → ℕ → Piece A → Piece A → Piece A
after_byte byte one other [] = other []
after_byte byte one other (c ∷ rest) = if c == byte then one rest else other (c ∷ rest)

-- one piece where the text ends, and else another
unfoldable pub at_end : {A : Type 0} → Piece A → Piece A → Piece A
at_end one other [] = one []
at_end one other (c ∷ rest) = other (c ∷ rest)

-- a byte that is due
unfoldable pub byte : ℕ → Piece (Unit {0})
byte wanted [] = None
byte wanted (c ∷ rest) = if c == wanted then Some (tt, rest) else None

-- so many bytes, at least so many
abbrev pub run_of : ℕ → ℕ → Piece (List ℕ)
run_of count least text = if nat_le least count then Some (take count text, drop count text) else None

-- all bytes that pass, at least so many
unfoldable pub run : (ℕ → Bool) → ℕ → Piece (List ℕ)
run passes least text = run_of (prefix_len passes text) least text

-- a number that is not less than one nor more than another
abbrev pub between : ℕ → ℕ → ℕ → Piece ℕ
between low high n text = if nat_le low n && nat_le n high then Some (n, text) else None

-- a number in decimal digits, at least one
unfoldable pub number : ℕ → ℕ → Piece ℕ
number low high = do
  digits ← run is_ascii_digit 1
  between low high (digits_value 10 digits)

-- the value of a whole text
abbrev pub whole : {A : Type 0} → Option (A × List ℕ) → Option A
whole None = None
whole (Some (x, [])) = Some x
whole (Some (x, (c ∷ rest))) = None
