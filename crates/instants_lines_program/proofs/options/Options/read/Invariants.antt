use Rattle.std.proofs.Common.{length}
use Rattle.instants_lines_program.proofs.options.Options.read.Given as goal

abbrev pub decreases-loop-rest : goal.decreases-loop-rest
decreases-loop-rest l = length l.rest
