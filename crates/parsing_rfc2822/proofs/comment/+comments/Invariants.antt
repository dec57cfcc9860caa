use Rattle.std.proofs.Common.{◌≡◌, ◌≤◌, ◌+◌, ◌*◌, length}
use Rattle.parsing_rfc2822.specs.Skips as Skips
use Rattle.parsing_rfc2822.specs.WhiteSpace as White
use Rattle.parsing_rfc2822.proofs.comment.+comments.Given as goal

abbrev pub decreases-comment : goal.decreases-comment
decreases-comment l = 3 * l.levels

abbrev pub decreases-content : goal.decreases-content
decreases-content l = 3 * l.levels + 1

abbrev pub decreases-contents : goal.decreases-contents
decreases-contents l = 3 * l.levels + 2

abbrev pub invariant-contents-loop-after : goal.invariant-contents-loop-after
invariant-contents-loop-after l =
    (Skips.many (White.content l.levels) l.fn.bytes ≡ Skips.many (White.content l.levels) l.rest) × (length l.rest ≤ length l.fn.bytes)

abbrev pub decreases-contents-loop-after : goal.decreases-contents-loop-after
decreases-contents-loop-after l = length l.rest
