use Rattle.parsing_rfc2822.proofs.TameLemmas.{given_short}
use Rattle.parsing_rfc2822.proofs.direct.read_exact.Goals as goal

pub returns-clause-short_name : goal.returns-clause-short_name
returns-clause-short_name c = given_short c.read_pieces.result c.args.input.now c.read_pieces.ensures
