use Rattle.std.proofs.Common.{length}
use Rattle.instants_words.proofs.sources.+push_sources.Given as goal

abbrev pub decreases-push_sources : goal.decreases-push_sources
decreases-push_sources l = length l.words.now
