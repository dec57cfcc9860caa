use Rattle.datetime.proofs.TextLemmas.{distinct}
use Rattle.datetime.proofs.laws.timestamps_print_apart.Goals as goal

pub returns : goal.returns
returns c = distinct
