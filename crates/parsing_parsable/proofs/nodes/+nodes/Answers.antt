use Rattle.std.proofs.Common.{arith}
use Rattle.parsing_parsable.proofs.Counting.{next_nodes, no_nodes}
use Rattle.parsing_parsable.proofs.nodes.+nodes.Goals as goal

pub nodes_in_all-loop-node-preserved : goal.nodes_in_all-loop-node-preserved
nodes_in_all-loop-node-preserved g t c =
    let next = next_nodes g.N.Node.tree c.args.nodes.now c.loop-node.node-index c.node-item.result c.loop-node-test.true c.node-item.is in
    record { counted = omega (arith, next, c.loop-node.invariant.counted); within = omega arith }

pub nodes_in_all-returns : goal.nodes_in_all-returns
nodes_in_all-returns g t c =
    let ended = no_nodes g.N.Node.tree c.args.nodes.now c.loop-node.node-index c.loop-node-test.false in
    record { nodes = omega (arith, ended, c.loop-node.invariant.counted) }
