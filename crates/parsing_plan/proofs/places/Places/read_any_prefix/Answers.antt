use Rattle.parsing_combinator.proofs.lemmas.Tame.{dropped}
use Rattle.parsing_plan.proofs.places.Places.read_any_prefix.Goals as goal

pub returns-in-Some-clause-prefix : goal.returns-in-Some-clause-prefix
returns-in-Some-clause-prefix c = λ m is. rw c.from.ensures.bytes (c.in_ok-fields.ensures m c.args.assumed is c.in_ok-minutes.ensures)

pub returns-in-Some-clause-end : goal.returns-in-Some-clause-end
returns-in-Some-clause-end c = rw c.from.ensures.bytes (dropped c.in_ok-end.end c.args.line.now)

pub returns-clause-prefix : goal.returns-clause-prefix
returns-clause-prefix c = λ m is. rw c.from-2.ensures.bytes (c.in_ok-fields-2.ensures m c.args.assumed is c.in_ok-minutes.ensures)

pub returns-clause-end : goal.returns-clause-end
returns-clause-end c = rw c.from-2.ensures.bytes (dropped c.args.self.now.front.shape.length c.args.line.now)
