use Rattle.std.proofs.Common.{length}
use Rattle.instants_words.specs.TextWords.{words_left}
use Rattle.instants_words.proofs.text_words.+count_in.Given as goal

abbrev pub decreases-count_in : goal.decreases-count_in
decreases-count_in l = length (words_left l.left)
