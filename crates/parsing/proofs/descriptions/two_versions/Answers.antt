use Rattle.parsing.proofs.Alike.{read_by_both}
use Rattle.parsing.proofs.descriptions.two_versions.Goals as goal

pub returns : goal.returns
returns c = read_by_both c.two_versions.ensures.same
