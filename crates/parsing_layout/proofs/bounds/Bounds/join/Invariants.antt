use Rattle.std.proofs.Common.{ℕ, Bool, List}
use Rattle.parsing_layout.specs.Bounds.{Admits}
use Rattle.parsing_layout.proofs.bounds.Bounds.join.Given as goal

-- of places that were not looked at nothing is said
abbrev pub invariant-loop-place : goal.invariant-loop-place
invariant-loop-place l = ((whole : Bool) (line : List ℕ) → Admits whole l.self line → Admits whole l.bounds line) × ((whole : Bool) (line : List ℕ) → Admits whole l.other line → Admits whole l.bounds line)
