use Rattle.std.proofs.Common.{length}
use Rattle.parsing_shapes.proofs.end.+take_end.Given as goal

abbrev pub decreases-take_end : goal.decreases-take_end
decreases-take_end l = length l.parts.now
