use Rattle.std.proofs.Common.{length, ◌+◌, arith}
use Rattle.instants_prefixes.proofs.Counts.{text_more, no_more}
use Rattle.instants_prefixes.proofs.ends.length_of_texts.Goals as goal

pub loop-node-preserved : goal.loop-node-preserved
loop-node-preserved g c = λ rest total others sum.
    let more = text_more g.N.Node.tree c.args.nodes.now c.loop-node.node-index c.node-item.result c.in_ok-text.text.now rest c.loop-node-test.true c.node-item.is c.in_ok-text.ensures.value others in
    c.loop-node.invariant (length c.in_ok-text.text.now + rest) total more (omega (arith, sum, c.in_ok-long.ensures))

pub returns : goal.returns
returns g c = c.loop-node.invariant 0 c.loop-node.long (no_more g.N.Node.tree c.args.nodes.now c.loop-node.node-index c.loop-node-test.false) (omega arith)
