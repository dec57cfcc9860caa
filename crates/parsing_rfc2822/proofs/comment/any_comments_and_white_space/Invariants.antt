use Rattle.std.proofs.Common.{◌≡◌, ◌<◌, Some, length}
use Rattle.parsing_rfc2822.specs.Skips as Skips
use Rattle.parsing_rfc2822.specs.WhiteSpace as White
use Rattle.parsing_rfc2822.proofs.comment.any_comments_and_white_space.Given as goal

abbrev pub invariant-loop-after : goal.invariant-loop-after
invariant-loop-after l =
    (White.comments_and_white_space l.bytes ≡ Some (Skips.many White.white_or_comment l.rest)) × (length l.rest < length l.bytes)

abbrev pub decreases-loop-after : goal.decreases-loop-after
decreases-loop-after l = length l.rest
