use Rattle.std.proofs.Common.{◌≡◌, Err, true, sym, ap, ◌∙◌}
use Rattle.std.specs.Char.{is_ascii_digit}
use Rattle.std.specs.List.{list_all}
use Rattle.description_tables.proofs.Counts.{parsed, count_too_great}
use Rattle.description_tables.proofs.values.count_of.Goals as goal

pub returns-in_default : goal.returns-in_default
returns-in_default c =
    let digits : list_all is_ascii_digit c.args.word.now ≡ true = ap (list_all is_ascii_digit) (sym c.as_bytes.ensures.value) ∙ sym c.are_digits.ensures ∙ c.if-not-are_digits.false in
    count_too_great c.args.word.now digits (parsed c.args.word.now (Err c.in_default.field-0) digits c.in_default.ensures.value.0)
