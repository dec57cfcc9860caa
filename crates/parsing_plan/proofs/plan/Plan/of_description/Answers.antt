use Rattle.std.proofs.Common.{◌≡◌, map, rules}
use Rattle.description_items.specs.Tree.{Compound, listed}
use Rattle.description_tree.specs.Description.{v3_tree}
use Rattle.description_tree.specs.Inner.{inner_tree}
use Rattle.parsing_components.specs.Component.{reads_component_v3}
use Rattle.parsing_plan.proofs.Walk.{compound_plans}
use Rattle.parsing_plan.proofs.plan.Plan.of_description.Goals as goal

pub returns-in-Compound : goal.returns-in-Compound
returns-in-Compound c =
    let tree : v3_tree c.args.description.now ≡ Compound (listed (map inner_tree c.in-Compound.nodes.now)) = search rules in
    rw tree (compound_plans reads_component_v3 (map inner_tree c.in-Compound.nodes.now) c.plan_of.result c.plan_of.ensures)
