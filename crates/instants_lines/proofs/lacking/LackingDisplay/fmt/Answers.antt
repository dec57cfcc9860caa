use Rattle.std.proofs.Common.{sym}
use Rattle.instants_lines.proofs.lacking.LackingDisplay.fmt.Goals as goal

pub returns-clause-writes : goal.returns-clause-writes
returns-clause-writes g c = rw (sym c.lack_word-lack.ensures) c.write.ensures.writes
