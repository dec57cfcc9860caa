use Rattle.description.proofs.TwoVersions.{items_two, ranged_two}
use Rattle.description.proofs.laws.two_versions.Goals as goal

pub returns-clause-items : goal.returns-clause-items
returns-clause-items c = items_two

pub returns-clause-same : goal.returns-clause-same
returns-clause-same c = ranged_two
