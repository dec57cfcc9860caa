use Rattle.std.proofs.Common.{arith}
use Rattle.std.proofs.lemmas.List.{take_rest}
use Rattle.parsing_rfc2822_shapes.proofs.FrontLemmas.{begins_alone, begins_after, begins_later}
use Rattle.parsing_rfc2822_shapes.proofs.fields.at_day.Goals as goal

pub returns-then-input-le57-clause-begins : goal.returns-then-input-le57-clause-begins
returns-then-input-le57-clause-begins c = begins_alone c.args.input.now (omega arith)

pub returns-then-input-eq32-clause-begins : goal.returns-then-input-eq32-clause-begins
returns-then-input-eq32-clause-begins c =
    let input = c.args.input.now in
    rw (take_rest input 6) (begins_later input (omega arith) (c.has_weekday.ensures c.if-not-has_weekday.false) c.if-input-eq32.true)

pub returns-clause-begins : goal.returns-clause-begins
returns-clause-begins c =
    let input = c.args.input.now in
    rw (take_rest input 5) (begins_after input (omega arith) (c.has_weekday.ensures c.if-not-has_weekday.false))
