use Rattle.std.proofs.Common.{arith, rules}
use Rattle.parsing_places.proofs.LaneLemmas.{ninth_alone}
use Rattle.parsing_places.proofs.lanes.first_nine.Goals as goal

pub returns-clause-last : goal.returns-clause-last
returns-clause-last c = ninth_alone c.args.bytes (omega (arith, c)) c.requires (search rules)
