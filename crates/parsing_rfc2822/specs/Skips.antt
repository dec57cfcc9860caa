-- Skips: each passes a prefix of the bytes, where they have such a prefix, and tells the rest.
use Rattle.std.specs.Prelude.{ℕ, zero, suc, ◌≡◌, ◌<◌, ◌≤◌, ◌==◌, Bool, List, [], ◌∷◌, length, drop, Option, Some, None, IfSome, option_map, if◌then◌else◌}
use Rattle.std.specs.Borrow.{Bor}
use Rattle.std.specs.List.{prefix_len}
use Rattle.parsing_combinator.specs.Pieces.{Piece}

abbrev pub Skip : Type 0
Skip = List ℕ → Option (List ℕ)

-- one byte that passes
unfoldable pub byte_where : (ℕ → Bool) → Skip
byte_where p [] = None
byte_where p (c ∷ rest) = if p c then Some rest else None

-- all bytes that pass, as many as there are
unfoldable pub past_all : (ℕ → Bool) → List ℕ → List ℕ
past_all p bytes = drop (prefix_len p bytes) bytes

-- the same, at least one
unfoldable pub past_some : (ℕ → Bool) → Skip
past_some p bytes = if prefix_len p bytes == 0 then None else Some (drop (prefix_len p bytes) bytes)

-- a second prefix after the first
abbrev pub then_skip : Option (List ℕ) → Skip → Option (List ℕ)
then_skip None second = None
then_skip (Some rest) second = second rest

-- the first prefix, or else the other
abbrev pub either : Option (List ℕ) → Option (List ℕ) → Option (List ℕ)
either (Some rest) other = Some rest
either None other = other

abbrev pub rest_or : Option (List ℕ) → List ℕ → List ℕ
rest_or (Some rest) bytes = rest
rest_or None bytes = bytes

-- a prefix that may be absent
abbrev pub optional : Skip → List ℕ → List ℕ
optional skip bytes = rest_or (skip bytes) bytes

abbrev pub more_or : Option (List ℕ) → (List ℕ → List ℕ) → List ℕ → List ℕ
more_or None more bytes = bytes
more_or (Some rest) more bytes = more rest

-- at most n prefixes, as many as there are
unfoldable pub up_to : ℕ → Skip → List ℕ → List ℕ
up_to zero skip bytes = bytes
up_to (suc n) skip bytes = more_or (skip bytes) (up_to n skip) bytes

-- as many prefixes as there are
unfoldable pub many : Skip → List ℕ → List ℕ
many skip bytes = up_to (length bytes) skip bytes

-- what a function tells that passes a prefix, after which fewer bytes are left
abbrev pub Passes : Skip → List ℕ → Option (Bor (List ℕ)) → Type 0
Passes skip bytes result = (option_map (λ r. r.now) result ≡ skip bytes) × IfSome result (λ r. length r.now < length bytes)

-- a rest of bytes is this one, and no longer than they are
abbrev pub IsRest : List ℕ → List ℕ → List ℕ → Type 0
IsRest rest bytes left = (left ≡ rest) × (length left ≤ length bytes)

-- a skip as a piece without a value
abbrev pub past : Skip → Piece (Unit {0})
past skip bytes = option_map (λ rest. (tt, rest)) (skip bytes)
