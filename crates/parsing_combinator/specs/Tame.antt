-- What a reading leaves is the end of what was there, and the name in its fault is short.
use Rattle.std.specs.Prelude.{◌≡◌, ℕ, List, ◌++◌, Option, Some, None, Result, Ok, Err}
use Rattle.parsing_combinator.specs.Fault.{Fault}
use Rattle.parsing_combinator.specs.Readings.{Reading}
use Rattle.parsing_combinator.specs.ShortName.{HasShortName}

-- the bytes end with the rest
abbrev pub EndsWith : List ℕ → List ℕ → Type 0
EndsWith bytes rest = (prefix : List ℕ) × (bytes ≡ prefix ++ rest)

-- a piece leaves the end of the bytes
abbrev pub Leaves : {A : Type 0} → List ℕ → Option (A × List ℕ) → Type 0
Leaves bytes None = Unit {0}
Leaves bytes (Some x) = EndsWith bytes x.1

-- what was read leaves the end of the bytes; a fault has room in an answer
abbrev pub Tame : {A : Type 0} → List ℕ → Result (A × List ℕ) Fault → Type 0
Tame bytes (Ok x) = EndsWith bytes x.1
Tame bytes (Err f) = HasShortName f

abbrev pub IsTame : {A : Type 0} → Reading A → Type 0
IsTame reading = (bytes : List ℕ) → Tame bytes (reading bytes)
