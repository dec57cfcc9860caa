use Rattle.std.proofs.Common.{true, ◌≡◌, take}
use Rattle.std.specs.List.{list_all}
use Rattle.parsing_rfc2822.specs.WhiteSpace as White
use Rattle.parsing_rfc2822.proofs.comment.is_plain.Given as goal

abbrev pub invariant-loop-byte : goal.invariant-loop-byte
invariant-loop-byte l = list_all White.is_comment_text (take l.byte-index l.text) ≡ true
