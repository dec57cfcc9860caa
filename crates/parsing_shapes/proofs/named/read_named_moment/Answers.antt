use Rattle.std.proofs.lemmas.Option.{IfSome_then}
use Rattle.std.proofs.Common.{arith}
use Rattle.parsing_shapes.proofs.NamedLemmas.{in_range, named_said}
use Rattle.parsing_shapes.proofs.named.read_named_moment.Goals as goal

pub overflow_add-days : goal.overflow_add-days
overflow_add-days c =
    let r = c.requires in
    let range = in_range c.args.shape.now c.args.text.now _ _ _ _ c.args.month c.in_ok-days.ensures r.whole r.spared (λ k. (omega (arith, c.type_inv.text k))) r.long r.month in
    omega (arith, range.days_few, c.from.ensures)

pub numbers_of-requires : goal.numbers_of-requires
numbers_of-requires c =
    let r = c.requires in
    rw c.from.ensures (in_range c.args.shape.now c.args.text.now _ _ _ _ c.args.month c.in_ok-days.ensures r.whole r.spared (λ k. (omega (arith, c.type_inv.text k))) r.long r.month)

pub returns : goal.returns
returns c = λ parts fits_parts.
    let r = c.requires in
    IfSome_then c.on_day.result c.on_day.ensures (λ f h. named_said c.args.shape.now c.args.text.now _ _ _ _ c.args.month c.in_ok-days.ensures r.whole r.spared (λ k. (omega (arith, c.type_inv.text k))) r.long r.month
    c.in_ok-numbers.numbers f (rw (c.from.ensures, c.new.ensures) at c.in_ok-numbers.ensures) h parts fits_parts)
