use Rattle.std.proofs.Common.{ℕ, ◌^◌, ◌<◌, List, take, drop, sym, ap, ◌∙◌, arith}
use Rattle.std.specs.Str.Parse.{digits_value}
use Rattle.parsing_combinator.proofs.FractionDigits.{digits_read}
use Rattle.parsing_values.specs.Decimal.{decimal}
use Rattle.parsing_values.proofs.lemmas.Decimals.{decimal_value}
use Rattle.parsing_values.proofs.four_digits.Year.number.Goals as goal

pub returns-clause-value : goal.returns-clause-value
unfolding decimal
returns-clause-value c =
    let n = c.args.self in
    let read = digits_read 4 (drop 0 c.digits.result) c.four_digits_at.result (drop 4 c.digits.result) c.four_digits_at.ensures.digits in
    let small : n < 10 ^ 4 = omega (arith, c.digits.ensures.bound) in
    sym read.value ∙ ap (λ (l : List ℕ). digits_value 10 (take 4 (drop 0 l))) c.digits.ensures.digits ∙ decimal_value 4 n small
