-- Readings: pieces one after another, or the fault of the first one that has no prefix.
use Rattle.std.specs.Prelude.{ℕ, Bool, true, ◌&&◌, nat_le, List, [], ◌∷◌, Option, Some, None, Result, Ok, Err, if◌then◌else◌}
use Rattle.calendar_count.specs.declared.component_range.ComponentRange.{ComponentRange}
use Rattle.parsing_combinator.specs.Fault.{Fault, trailing, range}
use Rattle.parsing_combinator.specs.Pieces.{Piece}

abbrev pub Reading : Type 0 → Type 0
Reading A = List ℕ → Result (A × List ℕ) Fault

-- the piece, and the fault where the bytes have no such prefix
abbrev pub piece_or : {A : Type 0} → Fault → Option (A × List ℕ) → Result (A × List ℕ) Fault
piece_or f None = Err f
piece_or f (Some x) = Ok x

infix 20 ◌or◌
abbrev pub ◌or◌ : {A : Type 0} → Piece A → Fault → Reading A
(p or f) bytes = piece_or f (p bytes)

abbrev pub then_read : {A B : Type 0} → Result (A × List ℕ) Fault → (A → Reading B) → Result (B × List ℕ) Fault
then_read (Ok x) f = f x.0 x.1
then_read (Err e) f = Err e

infixl 10 ◌>>=◌
abbrev pub ◌>>=◌ : {A B : Type 0} → Reading A → (A → Reading B) → Reading B
(r >>= f) bytes = then_read (r bytes) f

infixl 10 ◌>>◌
abbrev pub ◌>>◌ : {A B : Type 0} → Reading A → Reading B → Reading B
(r >> s) bytes = then_read (r bytes) (λ _. s)

-- nothing more, and a value
abbrev pub give : {A : Type 0} → A → Reading A
give x bytes = Ok (x, bytes)

-- an optional group: entered exactly where its first piece has a prefix, and then all of it is due
abbrev pub entered : {A B : Type 0} → Option (A × List ℕ) → (A → Reading B) → Reading B → Reading B
entered None due other bytes = other bytes
entered (Some x) due other bytes = due x.0 x.1

abbrev pub if_there : {A B : Type 0} → Piece A → (A → Reading B) → Reading B → Reading B
if_there first due other bytes = entered (first bytes) due other bytes

-- a check while reading
abbrev pub require : Bool → Fault → Reading (Unit {0})
require b f bytes = if b then Ok (tt, bytes) else Err f

-- whether a strict reading lets a number pass
abbrev pub within : Bool → ℕ → ℕ → ℕ → Bool
within is_strict low high value = if is_strict then nat_le low value && nat_le value high else true

-- what was read names a value or is out of range; no more bytes are read
abbrev pub resolved : {A : Type 0} → Result A ComponentRange → Reading A
resolved (Ok x) bytes = Ok (x, bytes)
resolved (Err r) bytes = Err (range r)

-- the end of the bytes
abbrev pub end : Reading (Unit {0})
end [] = Ok (tt, [])
end (x ∷ rest) = Err trailing

-- what was read, without the rest
abbrev pub value_read : {A : Type 0} → Result (A × List ℕ) Fault → Result A Fault
value_read (Ok x) = Ok x.0
value_read (Err f) = Err f
