use Rattle.std.proofs.Common.{◌≤◌, ◌<◌, ℕ, get_or}
use Rattle.parsing_places.proofs.lanes.Moves.checked.Given as goal

-- the lanes so far take one of sixteen bytes, or nothing
abbrev pub invariant-loop-lane : goal.invariant-loop-lane
invariant-loop-lane l = (k : ℕ) → k < l.lane → 16 ≤ get_or l.lanes k 0 → 128 ≤ get_or l.lanes k 0
