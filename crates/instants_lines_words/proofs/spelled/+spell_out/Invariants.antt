use Rattle.std.proofs.Common.{length}
use Rattle.instants_lines_words.proofs.spelled.+spell_out.Given as goal

abbrev pub decreases-spell_out : goal.decreases-spell_out
decreases-spell_out l = length l.sources.now
