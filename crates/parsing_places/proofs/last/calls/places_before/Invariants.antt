use Rattle.std.proofs.Common.{◌≡◌, ◌≤◌, ◌<◌, ℕ, get_or}
use Rattle.parsing_places.proofs.last.calls.places_before.Given as goal

-- the places so far, and lanes that take nothing after them
abbrev pub invariant-loop-place : goal.invariant-loop-place
invariant-loop-place l = ((k : ℕ) → k < l.place → get_or l.places k 0 ≡ k) × ((k : ℕ) → l.place ≤ k → k < 32 → 128 ≤ get_or l.places k 0)
