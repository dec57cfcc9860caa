-- What there is to write for a stream of bytes, as the stream is read.
use Rattle.std.specs.Prelude.{ℕ, Option, None, Some, List, [], ◌∷◌}

-- what is written for a whole stream, and what is owed as soon as these bytes were read
pub record Writing : Type 0 where
  pub output : List ℕ → List ℕ
  pub owed : List ℕ → List ℕ

-- what may be written once these bytes were read and these are left: while bytes are left, what is owed
abbrev pub due : Writing → List ℕ → Option (List ℕ) → List ℕ
due writing bytes (Some (b ∷ left)) = writing.owed bytes
due writing bytes (Some []) = writing.output bytes
due writing bytes None = writing.output bytes
