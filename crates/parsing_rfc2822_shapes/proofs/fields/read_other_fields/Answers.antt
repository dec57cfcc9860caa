use Rattle.parsing_values.proofs.lemmas.Moments.{of_fields}
use Rattle.parsing_rfc2822_shapes.proofs.fields.read_other_fields.Goals as goal

pub returns : goal.returns
returns c = of_fields _ _ c.read_from_day.result c.read_from_day.ensures (λ f says. says c.args.input.now c.in_ok-text.ensures.begins)
