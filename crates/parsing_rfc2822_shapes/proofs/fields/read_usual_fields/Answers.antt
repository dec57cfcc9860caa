use Rattle.std.proofs.Common.{arith}
use Rattle.std.proofs.lemmas.List.{take_rest}
use Rattle.parsing_values.proofs.lemmas.Moments.{of_fields}
use Rattle.parsing_rfc2822_shapes.proofs.FrontLemmas.{begins_after}
use Rattle.parsing_rfc2822_shapes.proofs.fields.read_usual_fields.Goals as goal

pub returns : goal.returns
returns c =
    let input = c.args.input.now in
    of_fields _ _ c.read_usual.result c.read_usual.ensures (λ f says. says input (rw (take_rest input 5) (begins_after input (omega arith) (c.has_weekday.ensures c.if-not-has_weekday.false))))
