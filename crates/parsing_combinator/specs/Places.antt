-- What stands at the places of a text.
use Rattle.std.specs.Prelude.{◌≤◌, ◌+◌, ◌/◌, ◌%◌, ℕ, List, length, get_or}

-- a digit stands at a place
pub record HasDigit (text : List ℕ) (place : ℕ) : Type 0 where
  pub low : 48 ≤ get_or text place 0
  pub high : get_or text place 0 ≤ 57

-- digits stand at a place and the next one
pub record HasPair (text : List ℕ) (place : ℕ) : Type 0 where
  pub room : place + 2 ≤ length text
  pub first : HasDigit text place
  pub second : HasDigit text (place + 1)

-- the four bytes of a number are at most 9
pub record AreFour (number : ℕ) : Type 0 where
  pub first : number % 256 ≤ 9
  pub second : number / 256 % 256 ≤ 9
  pub third : number / 65_536 % 256 ≤ 9
  pub fourth : number / 16_777_216 ≤ 9
