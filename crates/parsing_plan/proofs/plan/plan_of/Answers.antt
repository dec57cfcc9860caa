use Rattle.std.proofs.Common.{map}
use Rattle.description_items.specs.Tree.{listed}
use Rattle.parsing_components.specs.Reads.{reading_of_all}
use Rattle.parsing_plan.proofs.Walk.{of_places, of_list}
use Rattle.parsing_plan.proofs.plan.plan_of.Goals as goal

pub returns-in-Some : goal.returns-in-Some
returns-in-Some g c =
    of_places (reading_of_all g.N.Node.language (listed (map g.N.Node.tree c.args.items.now))) c.in-Some.places c.in-Some.ensures

pub returns : goal.returns
returns g c =
    of_list (reading_of_all g.N.Node.language (listed (map g.N.Node.tree c.args.items.now))) c.in_ok-listed.listed c.in_ok-listed.ensures
