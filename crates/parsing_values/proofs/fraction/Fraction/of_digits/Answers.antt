use Rattle.std.proofs.Common.{◌-◌, arith}
use Rattle.parsing_combinator.proofs.PaddingLemmas.{drop_fit}
use Rattle.parsing_values.specs.DigitsBack.{digits_below}
use Rattle.parsing_values.proofs.DigitLemmas.{short_nine}
use Rattle.parsing_values.proofs.fraction.Fraction.of_digits.Goals as goal

pub invariant_of-result : goal.invariant_of-result
invariant_of-result c = (short_nine _ _ _ c.in_ok-first.ensures (drop_fit (c.args.end - c.args.count) c.args.line.now (λ k. omega (arith, c.type_inv.line k)))).are

pub returns : goal.returns
returns c =
    let nine = short_nine _ _ _ c.in_ok-first.ensures (drop_fit (c.args.end - c.args.count) c.args.line.now (λ k. omega (arith, c.type_inv.line k))) in
    record { writes = record { enough = nine.enough; value = nine.value }; bound = digits_below _ _ nine.are }
