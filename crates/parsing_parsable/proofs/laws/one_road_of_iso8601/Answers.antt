use Rattle.parsing_parsable.proofs.Assumed.{one_road}
use Rattle.parsing_parsable.proofs.laws.one_road_of_iso8601.Goals as goal

pub returns : goal.returns
returns c = one_road
