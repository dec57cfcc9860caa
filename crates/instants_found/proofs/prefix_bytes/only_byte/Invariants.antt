use Rattle.std.proofs.Common.{◌≡◌, ◌<◌, ℕ, Some}
use Rattle.instants_found.specs.Keys.{IsRuledOutAt}
use Rattle.instants_found.proofs.prefix_bytes.only_byte.Given as goal

-- of the bytes so far only the one that was found can stand there
abbrev pub invariant-loop-byte : goal.invariant-loop-byte
invariant-loop-byte l = (b : ℕ) → b < l.byte → (l.only ≡ Some b → ⊥) → IsRuledOutAt l.first_bytes l.place b
