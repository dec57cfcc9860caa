use Rattle.std.proofs.Common.{length}
use Rattle.parsing_strides.proofs.stride.Stride.+keeps_others.Given as goal

abbrev pub decreases-keeps_others : goal.decreases-keeps_others
decreases-keeps_others l = length l.fields.now
