use Rattle.parsing_rfc2822.proofs.StrictLemmas.{strict_is_in_range}
use Rattle.parsing_rfc2822.proofs.laws.strict_reading.Goals as goal

pub returns : goal.returns
returns c = strict_is_in_range
