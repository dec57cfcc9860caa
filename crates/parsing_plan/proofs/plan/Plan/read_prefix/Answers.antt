use Rattle.parsing_plan.proofs.plan.Plan.read_prefix.Goals as goal

pub returns-in-Places-clause-prefix : goal.returns-in-Places-clause-prefix
returns-in-Places-clause-prefix c = λ m plan. c.read_prefix.ensures.prefix m (plan.0 c.in-Places.places c.in-Places.is)

pub returns-in-Listed-clause-prefix : goal.returns-in-Listed-clause-prefix
returns-in-Listed-clause-prefix c = λ m plan. c.read_prefix-in-Listed.ensures.prefix m (plan.2 c.in-Listed.listed c.in-Listed.is)
