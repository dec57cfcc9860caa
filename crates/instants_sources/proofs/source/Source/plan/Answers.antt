use Rattle.instants_sources.proofs.Form.{by_description}
use Rattle.instants_sources.proofs.source.Source.plan.Goals as goal

pub returns-in-Items : goal.returns-in-Items
returns-in-Items c = rw (by_description _ _ c.in-Items.is) c.plan.ensures
