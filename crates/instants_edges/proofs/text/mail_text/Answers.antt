use Rattle.std.proofs.Common.{◌+◌, take, ap, ◌∙◌, arith}
use Rattle.std.proofs.lemmas.List.{take_min}
use Rattle.instants_edges.specs.Text.{mail_end}
use Rattle.instants_edges.proofs.Texts.{ends_here, goes_further, ends_nowhere}
use Rattle.instants_edges.proofs.text.mail_text.Goals as goal

pub returns-in-Some-clause-value : goal.returns-in-Some-clause-value
returns-in-Some-clause-value c =
    let bytes = c.args.bytes.now in
    let place = c.loop-place.place in
    let long = c.in-Some.long in
    ap (λ n. take n bytes) c.min.ensures ∙ take_min (place + long) bytes ∙ ends_here mail_end bytes place long c.loop-place.invariant (omega arith) (cc)

pub loop-place-preserved : goal.loop-place-preserved
loop-place-preserved c = goes_further mail_end c.args.bytes.now c.loop-place.place (omega arith) c.loop-place.invariant (cc)

pub returns-clause-value : goal.returns-clause-value
returns-clause-value c = ends_nowhere mail_end c.args.bytes.now c.loop-place.place (omega arith) c.loop-place.invariant
