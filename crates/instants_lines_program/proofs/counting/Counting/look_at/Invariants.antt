use Rattle.std.proofs.Common.{length}
use Rattle.instants_lines_program.proofs.counting.Counting.look_at.Given as goal

abbrev pub decreases-loop-byte : goal.decreases-loop-byte
decreases-loop-byte g l = length l.rest
