use Rattle.parsing_combinator.proofs.lemmas.Tame.{dropped}
use Rattle.parsing_plan.proofs.places.Places.read_prefix.Goals as goal

pub returns-clause-prefix : goal.returns-clause-prefix
returns-clause-prefix c = λ m is. rw c.from.ensures.bytes (c.in_ok-fields.ensures m c.args.assumed is)

pub returns-clause-end : goal.returns-clause-end
returns-clause-end c = rw c.from.ensures.bytes (dropped c.args.self.now.plain_length c.args.line.now)
