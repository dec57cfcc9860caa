use Rattle.std.proofs.Common.{ℕ, Bool, List}
use Rattle.parsing_layout.specs.Bounds.{Admits}
use Rattle.parsing_layout.specs.Stretch.{IsCut}
use Rattle.parsing_layout.proofs.bounds.Bounds.put.Given as goal

-- of places that were not looked at nothing is said
abbrev pub invariant-loop-place : goal.invariant-loop-place
invariant-loop-place l = (whole : Bool) (line rest : List ℕ) → IsCut l.stretch line rest → Admits whole l.self rest → Admits whole l.bounds line
