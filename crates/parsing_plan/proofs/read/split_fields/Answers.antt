use Rattle.std.proofs.Common.{arith}
use Rattle.parsing_plan.proofs.PlaceLemmas.{split_read}
use Rattle.parsing_plan.proofs.SplitLemmas.{sums}
use Rattle.parsing_item_parts.specs.Items.{parts_kept}
use Rattle.parsing_plan.proofs.read.split_fields.Goals as goal

pub fields_of-requires-clause-ready : goal.fields_of-requires-clause-ready
fields_of-requires-clause-ready c = rw c.requires.beside at c.args.places.now.front.ready

pub fields_of-requires-clause-sums : goal.fields_of-requires-clause-sums
fields_of-requires-clause-sums c =
    let p = c.args.places.now in
    let back = c.args.back.now in
    sums p.front back.count back.last (parts_kept p.parts) (p.split back c.requires.split) c.args.line.now c.args.end c.args.count _ _ _ _ c.in_ok-sums.fraction (λ k. (omega (arith, c.type_inv.line k))) c.in_ok-sums.ensures.sums

pub returns : goal.returns
returns c = λ m assumed is assumes.
    let r = c.requires in
    let found = rw (← r.beside) at (c.fields_of.ensures assumed (rw (← r.beside) assumes)) in
    split_read c.args.places.now c.args.back.now c.args.line.now c.args.end c.args.count _ _ _ _ c.in_ok-sums.fraction (λ k. (omega (arith, c.type_inv.line k))) r.split c.in_ok-sums.ensures.sums r.all r.long r.within r.some r.few r.ends c.in_ok-sums.ensures.fraction (omega (arith, r.all, r.within)) assumed c.fields_of.result found m is
