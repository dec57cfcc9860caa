use Rattle.std.proofs.Common.{◌≡◌, ◌≤◌, length}
use Rattle.parsing_rfc2822.specs.Skips as Skips
use Rattle.parsing_rfc2822.specs.WhiteSpace as White
use Rattle.parsing_rfc2822.proofs.folding.folded_lines.Given as goal

abbrev pub invariant-loop-after : goal.invariant-loop-after
invariant-loop-after l =
    (Skips.many White.folded_line l.bytes ≡ Skips.many White.folded_line l.rest) × (length l.rest ≤ length l.bytes)

abbrev pub decreases-loop-after : goal.decreases-loop-after
decreases-loop-after l = length l.rest
