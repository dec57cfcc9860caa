-- What windows of sixteen bytes take, and what the last bytes of a text have after a fraction of a second.
use Rattle.std.specs.Prelude.{◌≡◌, ◌≤◌, ◌<◌, ◌+◌, ◌-◌, ℕ, List, get_or}
use Rattle.parsing_places.specs.Lanes.{above}
use Rattle.parsing_places.specs.Numbers.{IsDigitAt, LieIn}
use Rattle.parsing_places.specs.declared.lanes.Moves.{Moves}
use Rattle.parsing_places.specs.declared.last.LastBytes.{LastBytes}
use Rattle.parsing_places.specs.declared.shape.Window.{Window}

-- lanes v have what a window takes of the sixteen bytes of a text from a place on: how far each byte lies above the lowest one
pub record HaveWindow (window : Window) (text : List ℕ) (at : ℕ) (v : List ℕ) : Type 0 where
  pub lies : LieIn window text at
  pub taken : (lane place : ℕ) → lane < 16 → place < 16 → get_or window.taken.lanes lane 0 ≡ place → get_or v lane 0 ≡ above (get_or text (at + place) 0) (get_or window.low place 0)
  pub none : (lane : ℕ) → lane < 16 → 128 ≤ get_or window.taken.lanes lane 0 → get_or v lane 0 ≡ 0

-- the same of the sixteen bytes before an end
abbrev pub HaveEnd : Window → List ℕ → ℕ → List ℕ → Type 0
HaveEnd window text end v = HaveWindow window text (end - 16) v

-- the same bounds, with other bytes taken
abbrev pub with_moves : Window → Moves → Window
with_moves window moves = record { low = window.low; high = window.high; taken = moves }

-- the first lanes are so many digits that stand at a place, and the others 0
pub record HaveFraction (text : List ℕ) (place count : ℕ) (digits : List ℕ) : Type 0 where
  pub few : count ≤ 9
  pub each : (k : ℕ) → k < count → IsDigitAt digits k text (place + k) 9
  pub zeros : (k : ℕ) → count ≤ k → k < 16 → get_or digits k 0 ≡ 0

-- a text up to an end has so many digits of a fraction, and what has to stand after it: lanes v take that, and others the digits
pub record HaveLast (last : LastBytes) (text : List ℕ) (end count : ℕ) (v digits : List ℕ) : Type 0 where
  pub window : HaveEnd last.window text end v
  pub fraction : HaveFraction text (end - last.length - count) count digits
