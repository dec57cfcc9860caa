-- The names of zones.
use Rattle.std.specs.Prelude.{◌≢◌, ◌<◌, ◌≤◌, ℕ, Bool, ◌||◌, ◌==◌, IsTrue, List, length, slice_index, All}
use Rattle.std.specs.Char.{is_ascii_alphanumeric}

-- a letter, a digit, `_`, `+`, `-` or `/`; so no point
abbrev pub is_name_byte : ℕ → Bool
is_name_byte byte = is_ascii_alphanumeric byte || (byte == 95) || (byte == 43) || (byte == 45) || (byte == 47)

-- 1 to 64 such bytes, of which the first is no `/`
pub record IsZoneName (text : List ℕ) : Type 0 where
  pub some : 0 < length text
  pub short : length text ≤ 64
  pub relative : slice_index text 0 ≢ 47
  pub bytes : All (λ byte. IsTrue (is_name_byte byte)) text
