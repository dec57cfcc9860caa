use Rattle.std.proofs.lemmas.List.{take_rest}
use Rattle.parsing_rfc2822_shapes.specs.Layout.{from_day}
use Rattle.parsing_rfc2822_shapes.proofs.SaysLemmas.{not_before}
use Rattle.parsing_rfc2822_shapes.proofs.fields.read_shape.Goals as goal

pub returns : goal.returns
returns c = λ time fit. record {
  month = c.in_ok-month.month;
  said = c.in_ok-fields.ensures (from_day c.args.count time) fit;
  there = rw (take_rest c.args.text.now c.args.count) at c.in_ok-month.ensures.there;
  enough = not_before _ _ _ c.is_before.ensures c.if-is_before.false c.new.ensures;
}
