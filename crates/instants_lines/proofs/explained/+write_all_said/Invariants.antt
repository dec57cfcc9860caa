use Rattle.std.proofs.Common.{length}
use Rattle.instants_lines.proofs.explained.+write_all_said.Given as goal

abbrev pub decreases-write_all_said : goal.decreases-write_all_said
decreases-write_all_said g l = length l.sources.now
