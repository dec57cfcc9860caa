use Rattle.parsing_record.specs.Parts.{offset_parts, moment_parts}
use Rattle.parsing.proofs.laws.three_instants.Goals as goal

pub returns : goal.returns
returns c r = c.three_instants.ensures (moment_parts r) (offset_parts r)
