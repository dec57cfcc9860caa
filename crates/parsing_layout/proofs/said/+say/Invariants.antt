use Rattle.std.proofs.Common.{length}
use Rattle.parsing_layout.proofs.said.+say.Given as goal

abbrev pub decreases-say : goal.decreases-say
decreases-say l = length l.parts.now
