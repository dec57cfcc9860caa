use Rattle.std.proofs.Common.{arith}
use Rattle.parsing_plan.proofs.PlaceLemmas.{whole_read}
use Rattle.parsing_plan.proofs.read.whole_fields.Goals as goal

pub sums_of-requires-clause-whole : goal.sums_of-requires-clause-whole
sums_of-requires-clause-whole c = c.args.places.now.own c.requires.whole

pub fields_of-requires-clause-ready : goal.fields_of-requires-clause-ready
fields_of-requires-clause-ready c = rw c.requires.beside at c.args.places.now.front.ready

pub fields_of-requires-clause-sums : goal.fields_of-requires-clause-sums
fields_of-requires-clause-sums c = c.in_ok-sums.ensures

pub returns : goal.returns
returns c = λ m assumed is assumes.
    let found = rw (← c.requires.beside) at (c.fields_of.ensures assumed (rw (← c.requires.beside) assumes)) in
    whole_read c.args.places.now c.args.line.now _ _ _ _ c.in_ok-sums.ensures (λ k. (omega (arith, c.type_inv.line k))) c.requires.long assumed c.fields_of.result c.requires.whole found m is
