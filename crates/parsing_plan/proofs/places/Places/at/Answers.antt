use Rattle.std.proofs.Common.{refl}
use Rattle.parsing_plan.proofs.places.Places.at.Goals as goal

pub returns-then-is_none-clause-plan : goal.returns-then-is_none-clause-plan
returns-then-is_none-clause-plan c = refl

pub returns-then-is_none-clause-assumed : goal.returns-then-is_none-clause-assumed
returns-then-is_none-clause-assumed c = c.in_ok-minutes.ensures

pub returns-clause-plan : goal.returns-clause-plan
returns-clause-plan c = refl

pub returns-clause-assumed : goal.returns-clause-assumed
returns-clause-assumed c = c.in_ok-minutes.ensures
