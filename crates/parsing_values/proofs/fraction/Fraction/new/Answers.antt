use Rattle.std.proofs.Common.{◌≡◌, take, arith, w64}
use Rattle.std.specs.Int.{from_le_bytes}
use Rattle.parsing_values.specs.Decimal.{decimal}
use Rattle.parsing_values.proofs.DigitLemmas.{of_number}
use Rattle.parsing_values.proofs.fraction.Fraction.new.Goals as goal

is : (c : goal.After-from) → c.from_le_bytes.result ≡ from_le_bytes w64 (take 8 (decimal 9 c.args.nanosecond))
unfolding decimal
is c = omega (arith, c.from_le_bytes.ensures, c.digit_pair-first.ensures.tens, c.digit_pair-first.ensures.ones, c.digit_pair-third.ensures.tens, c.digit_pair-third.ensures.ones, c.digit_pair-fifth.ensures.tens, c.digit_pair-fifth.ensures.ones, c.digit_pair-seventh.ensures.tens, c.digit_pair-seventh.ensures.ones)

pub invariant_of-result : goal.invariant_of-result
invariant_of-result c = (of_number c.args.nanosecond c.from_le_bytes.result c.from.result c.requires (omega arith) (is c) (omega (arith, c.from.ensures))).0

pub returns : goal.returns
returns c = (of_number c.args.nanosecond c.from_le_bytes.result c.from.result c.requires (omega arith) (is c) (omega (arith, c.from.ensures))).1
