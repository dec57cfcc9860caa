use Rattle.instants_found.proofs.LaneLemmas.{all_set}
use Rattle.instants_found.proofs.keys.Keys.of_none.Goals as goal

pub of_one-requires-clause-keyless : goal.of_one-requires-clause-keyless
of_one-requires-clause-keyless c = all_set
