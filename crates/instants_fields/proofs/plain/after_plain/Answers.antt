use Rattle.instants_fields.proofs.PlainRuns.{pass_plain}
use Rattle.instants_fields.proofs.plain.after_plain.Goals as goal

pub returns-clause-same : goal.returns-clause-same
returns-clause-same c = rw c.after.ensures (pass_plain c.plain_count.result c.args.text.now c.plain_count.ensures.within c.plain_count.ensures.plain)
