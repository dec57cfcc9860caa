use Rattle.std.proofs.Common.{map}
use Rattle.description_items.specs.Tree.{listed}
use Rattle.parsing_components.specs.Reads.{reading_of_all}
use Rattle.parsing_plan.proofs.Walk.{places_read}
use Rattle.parsing_plan.proofs.places.Places.of_nodes.Goals as goal

pub returns : goal.returns
returns g c = places_read (reading_of_all g.N.Node.language (listed (map g.N.Node.tree c.args.nodes.now))) c.in_ok-parts.parts c.of_parts.result c.in_ok-parts.ensures c.of_parts.ensures
