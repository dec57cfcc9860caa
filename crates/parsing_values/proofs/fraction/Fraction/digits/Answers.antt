use Rattle.parsing_values.specs.Digits.{nine_digits}
use Rattle.parsing_values.proofs.DigitLemmas.{kept}
use Rattle.parsing_values.proofs.fraction.Fraction.digits.Goals as goal

pub returns-clause-text : goal.returns-clause-text
unfolding nine_digits
returns-clause-text c = rw c.to_le_bytes.ensures (kept _ _ _ c.self.invariant c.self.view_is).text

pub returns-clause-bound : goal.returns-clause-bound
returns-clause-bound c = (kept _ _ _ c.self.invariant c.self.view_is).bound
