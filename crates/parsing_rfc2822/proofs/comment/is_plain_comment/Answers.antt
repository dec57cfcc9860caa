use Rattle.parsing_rfc2822.proofs.CommentLemmas.{plain_comment_there}
use Rattle.parsing_rfc2822.proofs.comment.is_plain_comment.Goals as goal

pub returns-in-len3-up : goal.returns-in-len3-up
returns-in-len3-up c = λ e.
    plain_comment_there c.args.bytes.now c.in-len3-up.len_at_least c.if-first-eq32.true c.if-open-eq40.true c.if-close-eq41.true (c.is_plain.ensures e)
