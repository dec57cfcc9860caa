use Rattle.parsing.proofs.Assumed.{two_formats}
use Rattle.parsing.proofs.two_roads.two_formats.Goals as goal

pub returns : goal.returns
returns c = λ bytes. two_formats bytes (c.two_roads_of_rfc3339.ensures bytes) (c.one_road_of_iso8601.ensures bytes)
