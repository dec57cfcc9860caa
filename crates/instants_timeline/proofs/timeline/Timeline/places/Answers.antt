use Rattle.std.proofs.Common.{arith}
use Rattle.instants_timeline.proofs.Counted.{next_nodes_of, nodes_of_all}
use Rattle.instants_timeline.proofs.timeline.Timeline.places.Goals as goal

pub overflow_add-nodes : goal.overflow_add-nodes
overflow_add-nodes c =
    let sources = c.args.self.now.sources.items in
    let next = next_nodes_of sources c.loop-source.source-index c.loop-source.nodes c.source-item.result (rw c.deref-source-items.ensures.value at c.loop-source-test.true) (rw c.deref-source-items.ensures.value at c.source-item.is) c.loop-source.invariant in
    omega (arith, next, c.nodes-nodes.ensures, c.args.self.now.few)

pub loop-source-preserved : goal.loop-source-preserved
loop-source-preserved c =
    let sources = c.args.self.now.sources.items in
    let next = next_nodes_of sources c.loop-source.source-index c.loop-source.nodes c.source-item.result (rw c.deref-source-items.ensures.value at c.loop-source-test.true) (rw c.deref-source-items.ensures.value at c.source-item.is) c.loop-source.invariant in
    omega (arith, next, c.nodes-nodes.ensures, c.args.self.now.few)

pub returns : goal.returns
returns c = record { places = nodes_of_all c.args.self.now.sources.items c.loop-source.source-index c.loop-source.nodes (omega arith) c.loop-source.invariant }
