-- What ends a call before all lines are answered.
use Rattle.std.specs.Prelude.{◌≡◌, ℕ, ◌<◌, ◌++◌, List, length, take, drop}
use Rattle.instants_memory.specs.OutputFor.{IsOutputFor}

-- the answers are longer than the room, which is full of their beginning
pub record IsCutShort (words : List (List ℕ)) (input before after : List ℕ) (written : ℕ) : Type 0 where
  pub bytes : List ℕ
  pub is : IsOutputFor words input bytes
  pub longer : length before < length bytes
  pub prefix : after ≡ take (length before) bytes
  pub full : written ≡ length before

-- a text stands at the start of a room, as much of it as there is room for, and its length is given
pub record IsPut (text before after : List ℕ) (len : ℕ) : Type 0 where
  pub prefix : after ≡ take (length before) text ++ drop (length text) before
  pub len_is : len ≡ length text
