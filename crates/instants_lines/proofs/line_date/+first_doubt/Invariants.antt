use Rattle.std.proofs.Common.{length}
use Rattle.instants_lines.proofs.line_date.+first_doubt.Given as goal

abbrev pub decreases-first_doubt : goal.decreases-first_doubt
decreases-first_doubt l = length l.sources.now
