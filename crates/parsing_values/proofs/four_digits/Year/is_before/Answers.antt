use Rattle.std.proofs.Common.{w32, ap, ◌∙◌}
use Rattle.std.specs.Int.{from_be_bytes}
use Rattle.parsing_values.proofs.YearLemmas.{in_order, tested}
use Rattle.parsing_values.proofs.four_digits.Year.is_before.Goals as goal

pub returns : goal.returns
returns c =
    let one = c.from_be_bytes.ensures ∙ ap (from_be_bytes w32) c.digits.ensures.digits in
    let other = c.from_be_bytes-2.ensures ∙ ap (from_be_bytes w32) c.digits-2.ensures.digits in
    tested _ _ _ _ (in_order c.args.self c.args.other c.from_be_bytes.result c.from_be_bytes-2.result c.digits.ensures.bound c.digits-2.ensures.bound one other)
