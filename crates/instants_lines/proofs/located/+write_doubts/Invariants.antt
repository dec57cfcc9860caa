use Rattle.std.proofs.Common.{length}
use Rattle.instants_lines.proofs.located.+write_doubts.Given as goal

abbrev pub decreases-write_doubts : goal.decreases-write_doubts
decreases-write_doubts g l = length l.sources.now
