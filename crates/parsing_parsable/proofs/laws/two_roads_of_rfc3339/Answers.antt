use Rattle.parsing_parsable.proofs.Rfc3339Roads.{agree}
use Rattle.parsing_parsable.proofs.laws.two_roads_of_rfc3339.Goals as goal

pub returns : goal.returns
returns c = λ bytes. agree bytes (c.strict_reading.ensures bytes)
