use Rattle.std.proofs.Common.{◌≡◌, ◌<◌, ℕ, true, false, get_or}
use Rattle.instants_found.specs.Ranges.{is_within}
use Rattle.instants_found.proofs.starts.are_within.Given as goal

-- so are the bytes so far
abbrev pub invariant-loop-byte : goal.invariant-loop-byte
invariant-loop-byte l = (b : ℕ) → b < l.byte → is_within l.range b ≡ false → get_or l.table b true ≡ false
