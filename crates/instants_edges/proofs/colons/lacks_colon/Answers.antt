use Rattle.std.proofs.Common.{◌+◌, refl, arith}
use Rattle.std.proofs.lemmas.Bool.{not-true}
use Rattle.instants_edges.proofs.NoClocks.{none_among}
use Rattle.instants_edges.proofs.colons.lacks_colon.Goals as goal

pub loop-at-preserved : goal.loop-at-preserved
loop-at-preserved c = none_among c.args.line.now c.loop-at.at c.loop-at.at (c.loop-at.at + 16) (omega arith) refl c.loop-at.invariant (c.has_colon.ensures c.if-has_colon.false)

pub returns : goal.returns
returns c = λ none. none_among c.args.line.now c.loop-at.at _ c.args.place (omega arith) (omega arith) c.loop-at.invariant (c.has_colon-2.ensures (not-true c.has_colon-2.result none))
