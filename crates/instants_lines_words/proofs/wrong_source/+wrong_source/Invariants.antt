use Rattle.std.proofs.Common.{length}
use Rattle.instants_lines_words.proofs.wrong_source.+wrong_source.Given as goal

abbrev pub decreases-wrong_source : goal.decreases-wrong_source
decreases-wrong_source l = length l.words.now
