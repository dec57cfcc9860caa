use Rattle.description_lexer.proofs.Cuts.{word_cut}
use Rattle.description_lexer.proofs.runs.word.Goals as goal

pub cut-requires : goal.cut-requires
cut-requires c = rw (c.word_len-len.ensures, c.as_bytes.ensures.value) (word_cut _)
