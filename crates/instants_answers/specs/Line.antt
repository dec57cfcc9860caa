-- A line that stands at the start of a room.
use Rattle.std.specs.Prelude.{◌≡◌, ◌≤◌, ℕ, List, [], ◌∷◌, ◌++◌, take}
use Rattle.base.specs.Bytes.{line_feed}

-- so many bytes of a room, at most 64, are a text and a line feed
pub record HoldsLine (text : List ℕ) (len : ℕ) (room : List ℕ) : Type 0 where
  pub bytes : take len room ≡ text ++ line_feed ∷ []
  pub most : len ≤ 64
