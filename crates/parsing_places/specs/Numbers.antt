-- What is written at the places of a text.
use Rattle.std.specs.Prelude.{◌≡◌, ◌≤◌, ◌<◌, ◌+◌, ◌-◌, ℕ, List, drop, get_or, length, Some}
use Rattle.parsing_combinator.specs.Pieces.{digits}
use Rattle.parsing_combinator.specs.Places.{HasDigit}
use Rattle.parsing_places.specs.Lanes.{above}
use Rattle.parsing_places.specs.declared.shape.Window.{Window}

-- a lane is the digit at a place of the text, at most so large
pub record IsDigitAt (v : List ℕ) (lane : ℕ) (text : List ℕ) (place most : ℕ) : Type 0 where
  pub room : place < length text
  pub digit : HasDigit text place
  pub value : get_or v lane 0 ≡ get_or text place 0 - 48
  pub few : get_or v lane 0 ≤ most

-- two digits at a place write a number
abbrev pub WritesTwo : List ℕ → ℕ → ℕ → Type 0
WritesTwo text place number = digits 2 (drop place text) ≡ Some (number, drop (place + 2) text)

-- sixteen bytes from a place on lie within the bounds of a window
abbrev pub LieIn : Window → List ℕ → ℕ → Type 0
LieIn window text at = (k : ℕ) → k < 16 → above (get_or text (at + k) 0) (get_or window.low k 0) ≤ get_or window.high k 0
