use Rattle.std.proofs.Common.{◌≡◌, ◌≤◌, length, drop}
use Rattle.parsing_combinator.specs.Chunks.{chunk}
use Rattle.parsing_combinator.proofs.chunk.short_chunk.Given as goal

abbrev pub invariant-loop-at : goal.invariant-loop-at
invariant-loop-at l = (l.at ≤ length l.bytes) × (l.chunk ≡ chunk (drop l.at l.bytes))

abbrev pub decreases-loop-at : goal.decreases-loop-at
decreases-loop-at l = l.at
