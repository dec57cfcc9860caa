use Rattle.instants_sources.proofs.Roads.{direct_named}
use Rattle.instants_sources.proofs.moment.directly_named.Goals as goal

pub returns : goal.returns
returns c = direct_named c.two_roads_of_rfc2822.ensures c.two_roads_of_rfc3339.ensures c.one_road_of_iso8601.ensures
