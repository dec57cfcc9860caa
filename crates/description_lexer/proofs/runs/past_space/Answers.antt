use Rattle.description_lexer.proofs.Cuts.{space_cut}
use Rattle.description_lexer.proofs.runs.past_space.Goals as goal

pub cut-requires : goal.cut-requires
cut-requires c = rw (c.space_len-len.ensures, ← c.as_bytes.ensures.value) (space_cut _ c.as_bytes.ensures.utf8)
