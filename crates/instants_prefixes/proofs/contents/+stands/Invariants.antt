use Rattle.std.proofs.Common.{◌≡◌, ◌+◌, ◌*◌, map}
use Rattle.description_items.specs.Tree.{listed}
use Rattle.parsing_components.proofs.lemmas.Sizes.{size, size_all, from}
use Rattle.instants_prefixes.specs.Has.{any_has}
use Rattle.instants_prefixes.specs.Kinds.{is_of}
use Rattle.instants_prefixes.proofs.contents.+stands.Given as goal

abbrev pub decreases-stands_in_node : goal.decreases-stands_in_node
decreases-stands_in_node g l = 2 * size (g.N.Node.tree l.node.now)

abbrev pub decreases-stands_in_any : goal.decreases-stands_in_any
decreases-stands_in_any g l = 2 * size_all (listed (map g.N.Node.tree l.nodes.now)) + 1

abbrev pub invariant-stands_in_any-loop-node : goal.invariant-stands_in_any-loop-node
invariant-stands_in_any-loop-node g l = any_has l.in_choices (is_of l.kind) (from g.N.Node.tree l.nodes 0) ≡ any_has l.in_choices (is_of l.kind) (from g.N.Node.tree l.nodes l.node-index)
