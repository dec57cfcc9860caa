use Rattle.std.proofs.Common.{length}
use Rattle.parsing_shapes.proofs.front.calls.+take_all.Given as goal

abbrev pub decreases-take_all : goal.decreases-take_all
decreases-take_all l = length l.parts.now
