use Rattle.std.proofs.Common.{◌+◌, ◌*◌, ◌-◌, length, map}
use Rattle.description_items.specs.Tree.{listed}
use Rattle.parsing_components.specs.Reads.{reading_of_all}
use Rattle.parsing_components.proofs.lemmas.Sizes.{size, size_all, from}
use Rattle.parsing_item_layouts.specs.Fronts.{Leads}
use Rattle.parsing_item_layouts.proofs.WalkLemmas.{EachLeads}
use Rattle.parsing_item_layouts.proofs.walk.+walk.Given as goal

-- the last so many nodes stand before
abbrev pub invariant-put_nodes-loop-place : goal.invariant-put_nodes-loop-place
invariant-put_nodes-loop-place g l = Leads g.F.Front.fits (reading_of_all g.N.Node.language (from g.N.Node.tree l.nodes (length l.nodes - l.place))) l.fn.front l.front

-- what each of the first nodes reads is joined
abbrev pub invariant-put_first-loop-node : goal.invariant-put_first-loop-node
invariant-put_first-loop-node g l = EachLeads g.F.Front.fits g.N.Node.language g.N.Node.tree l.nodes l.node-index l.fn.front l.front

abbrev pub decreases-put_node : goal.decreases-put_node
decreases-put_node g l = 3 * size (g.N.Node.tree l.node.now)

abbrev pub decreases-put_nodes : goal.decreases-put_nodes
decreases-put_nodes g l = 3 * size_all (listed (map g.N.Node.tree l.nodes.now)) + 2

abbrev pub decreases-put_first : goal.decreases-put_first
decreases-put_first g l = 3 * size_all (listed (map g.N.Node.tree l.nodes.now)) + 1
