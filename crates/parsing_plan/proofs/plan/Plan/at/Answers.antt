use Rattle.std.proofs.Common.{refl, sym}
use Rattle.parsing_plan.proofs.plan.Plan.at.Goals as goal

pub returns-in-Places-clause-plan : goal.returns-in-Places-clause-plan
returns-in-Places-clause-plan c = sym c.in-Places.is

pub returns-in-Places-clause-assumed : goal.returns-in-Places-clause-assumed
returns-in-Places-clause-assumed c = tt

pub returns-in-Unix-clause-plan : goal.returns-in-Unix-clause-plan
returns-in-Unix-clause-plan c = sym c.in-Unix.is

pub returns-in-Unix-clause-assumed : goal.returns-in-Unix-clause-assumed
returns-in-Unix-clause-assumed c = tt
