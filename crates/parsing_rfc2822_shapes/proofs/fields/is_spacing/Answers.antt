use Rattle.std.proofs.Common.{refl}
use Rattle.parsing_rfc2822_shapes.proofs.fields.is_spacing.Goals as goal

pub returns-then-is_plain_comment : goal.returns-then-is_plain_comment
returns-then-is_plain_comment c = λ e. rw (c.is_plain_comment.ensures c.if-is_plain_comment.true) refl
