use Rattle.std.proofs.Common.{length}
use Rattle.instants_words.proofs.sources.+count.Given as goal

abbrev pub decreases-count : goal.decreases-count
decreases-count l = length l.words.now
