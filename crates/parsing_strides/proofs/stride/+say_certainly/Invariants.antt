use Rattle.std.proofs.Common.{length}
use Rattle.parsing_strides.proofs.stride.+say_certainly.Given as goal

abbrev pub decreases-say_certainly : goal.decreases-say_certainly
decreases-say_certainly l = length l.items.now
