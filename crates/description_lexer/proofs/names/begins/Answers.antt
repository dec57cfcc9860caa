use Rattle.std.proofs.Common.{arith}
use Rattle.description_lexer.proofs.Cuts.{first_cut}
use Rattle.description_lexer.proofs.names.begins.Goals as goal

pub returns-in-len1-up-clause-boundary : goal.returns-in-len1-up-clause-boundary
returns-in-len1-up-clause-boundary c = rw (← c.as_bytes.ensures.value) (first_cut c.as_bytes.result.now c.args.byte c.as_bytes.ensures.utf8 (omega (arith, c.in-len1-up.len_at_least)))
