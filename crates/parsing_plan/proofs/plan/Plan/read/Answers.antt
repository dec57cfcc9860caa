use Rattle.std.proofs.Common.{Some, arith}
use Rattle.std.proofs.lemmas.List.{nil_from_length}
use Rattle.parsing_item_parts.proofs.ReadingLemmas.{if_whole_named}
use Rattle.parsing_plan.proofs.plan.Plan.read.Goals as goal

pub returns-in-Some-default-empty : goal.returns-in-Some-default-empty
returns-in-Some-default-empty c = λ m defaults plan start.
    let it = c.in-Some-default-empty in
    let rest = it.field-0-1.now in
    if_whole_named m defaults c.args.line.now rest c.args.assumed (Some it.fields) (nil_from_length rest (omega (arith, it.len_below))) start (it.ensures.prefix m (plan.0 c.in-Places.places c.in-Places.is))

pub returns-in-Unix : goal.returns-in-Unix
returns-in-Unix c = λ m defaults plan start. c.read.ensures c.args.assumed m defaults (plan.1 c.in-Unix.unix c.in-Unix.is) start

pub returns-in-Listed : goal.returns-in-Listed
returns-in-Listed c = λ m defaults plan start. c.read-in-Listed.ensures m defaults (plan.2 c.in-Listed.listed c.in-Listed.is) start
