use Rattle.std.proofs.Common.{◌≡◌, ◌+◌, ◌++◌, ◌∷◌, [], get_or, drop, map, append_assoc}
use Rattle.std.proofs.lemmas.List.{append-nil, drop_more, drop_all}
use Rattle.description_items.specs.Tree.{listed}
use Rattle.parsing_components.specs.Reads.{reading_of_all}
use Rattle.parsing_item_parts.specs.Items.{items_kept}
use Rattle.parsing_item_parts.proofs.ItemLemmas.{items_first, items_of_parts, no_parts}
use Rattle.parsing_item_parts.proofs.list.Items.of_nodes.Goals as goal

pub loop-node-init : goal.loop-node-init
loop-node-init g c = rw c.new-list.ensures (λ later are. are)

pub loop-node-preserved : goal.loop-node-preserved
loop-node-preserved g c =
    let nodes = c.args.nodes.now in
    let i = c.loop-node.node-index in
    let node = c.node-item.result in
    let cut : drop i nodes ≡ get_or nodes i node ∷ drop (i + 1) nodes = drop_more nodes i node c.loop-node-test.true in
    let before = rw (cut, ← c.node-item.is) at c.loop-node.invariant in
    let adds = c.in_ok-list.ensures in
    λ later are. rw (adds.added, append_assoc (items_kept c.loop-node.list) adds.more later)
    (before (adds.more ++ later) (items_first g.N.Node.language (g.N.Node.tree node) (map g.N.Node.tree (drop (i + 1) nodes)) adds.more later adds.read are))

pub returns : goal.returns
returns g c =
    let before = rw (drop_all c.loop-node.node-index c.args.nodes.now c.loop-node-test.false) at c.loop-node.invariant in
    rw (append-nil (items_kept c.loop-node.list)) at (before [] (items_of_parts (reading_of_all g.N.Node.language (listed [])) [] (no_parts g.N.Node.language)))
