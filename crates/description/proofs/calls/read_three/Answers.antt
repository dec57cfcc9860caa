use Rattle.std.proofs.Common.{refl, arith}
use Rattle.description_tree.specs.Inner.{inner_tree}
use Rattle.description_grammar.proofs.Outcomes.{tree_is_spelled}
use Rattle.description.proofs.Nodes.{tree_room}
use Rattle.description.proofs.calls.read_three.Goals as goal

-- a tree reserves no more than its text has, and that fits
pub unreachable-requires : goal.unreachable-requires
unreachable-requires c =
    let tree = inner_tree c.in_ok-tree_of.field-0 in
    omega (arith, c.in-Err.ensures.refused.0 refl, tree_room c.args.s.now tree (tree_is_spelled c.args.s.now tree c.in_ok-tree_of.ensures.value))
