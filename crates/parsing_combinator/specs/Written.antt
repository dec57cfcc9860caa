-- Digits that write a fraction of a second.
use Rattle.std.specs.Prelude.{◌≡◌, ◌≤◌, ℕ, List, take}
use Rattle.parsing_combinator.specs.Pieces.{digit_count, nanoseconds_of}

-- so many digits at the start of bytes write these nanoseconds
pub record WriteFraction (bytes : List ℕ) (count nanosecond : ℕ) : Type 0 where
  pub enough : count ≤ digit_count bytes
  pub value : nanosecond ≡ nanoseconds_of (take count bytes)
