-- The tree of what a node is.
use Rattle.std.specs.Prelude.{map}
use Rattle.description_items.specs.Tree.{Tree, Literal, Part, Compound, Optional, First, listed}
use Rattle.parsing_components.specs.declared.node.NodeStep.{NodeStep}
use Rattle.parsing_components.specs.declared.node.NodeStep.TheVariants as step

-- of the trees of the nodes inside it
abbrev pub step_tree : {N : Type 0} → (N → Tree) → NodeStep N → Tree
step_tree tree (step.Literal text) = Literal text.now
step_tree tree (step.Component component) = Part component
step_tree tree (step.Compound nodes) = Compound (listed (map tree nodes.now))
step_tree tree (step.Optional format node) = Optional format (tree node.now)
step_tree tree (step.First nodes) = First (listed (map tree nodes.now))
