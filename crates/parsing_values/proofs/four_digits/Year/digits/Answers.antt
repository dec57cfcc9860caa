use Rattle.std.proofs.Common.{refl, sym, ◌∙◌, ap, arith}
use Rattle.parsing_values.specs.Decimal.{decimal}
use Rattle.parsing_values.specs.Digits.{four_digits}
use Rattle.parsing_values.specs.DigitsBack.{decimal_back, year_below}
use Rattle.parsing_values.proofs.four_digits.Year.digits.Goals as goal

pub returns-clause-digits : goal.returns-clause-digits
returns-clause-digits c =
    let digits = c.self.inside.digits in
    c.to_le_bytes.ensures ∙ sym (decimal_back 4 (four_digits digits) c.self.invariant.1 refl) ∙ ap (decimal 4) c.self.view_is

pub returns-clause-bound : goal.returns-clause-bound
returns-clause-bound c = omega (arith, year_below c.self.inside.digits c.self.invariant, c.self.view_is)
