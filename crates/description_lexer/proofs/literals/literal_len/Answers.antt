use Rattle.description_lexer.proofs.Cuts.{literal_cut}
use Rattle.description_lexer.proofs.literals.literal_len.Goals as goal

pub returns-clause-boundary : goal.returns-clause-boundary
returns-clause-boundary c = rw (c.literal_run.ensures, c.as_bytes.ensures.value) (literal_cut c.args.version c.args.text.now c.requires)
