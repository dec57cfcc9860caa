use Rattle.std.proofs.Common.{length}
use Rattle.instants_lines.proofs.explained.+first_answer.Given as goal

abbrev pub decreases-first_answer : goal.decreases-first_answer
decreases-first_answer l = length l.sources.now
