use Rattle.instants_lines_words.proofs.Stays.{in_full}
use Rattle.instants_lines_words.proofs.laws.words_in_full.Goals as goal

pub returns : goal.returns
returns c = in_full
