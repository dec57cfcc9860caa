-- Texts in a room.
use Rattle.std.specs.Prelude.{◌≡◌, ◌<◌, ◌≤◌, ◌+◌, ◌-◌, ℕ, List, ◌++◌, length, take, drop}

-- a text stands after so many bytes of a room, up to an end, and what lies after it stays
pub record IsPut (before : List ℕ) (at : ℕ) (text : List ℕ) (end : ℕ) (after : List ℕ) : Type 0 where
  pub end_is : end ≡ at + length text
  pub within : end ≤ length before
  pub prefix : take end after ≡ take at before ++ text
  pub rest : drop end after ≡ drop end before
  pub size : length after ≡ length before

-- there is less room for it, which is full of its beginning
pub record IsFull (before : List ℕ) (at : ℕ) (text after : List ℕ) : Type 0 where
  pub less : length before < at + length text
  pub full : after ≡ take at before ++ take (length before - at) text
