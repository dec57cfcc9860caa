use Rattle.std.proofs.Common.{length}
use Rattle.parsing_strides.proofs.stride.Stride.+takes_all.Given as goal

abbrev pub decreases-takes_all : goal.decreases-takes_all
decreases-takes_all l = length l.items.now
