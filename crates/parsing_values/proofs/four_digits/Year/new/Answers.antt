use Rattle.std.proofs.Common.{◌≡◌, arith, w32}
use Rattle.std.specs.Int.{from_le_bytes}
use Rattle.parsing_values.specs.Decimal.{decimal}
use Rattle.parsing_values.proofs.YearLemmas.{of_number}
use Rattle.parsing_values.proofs.four_digits.Year.new.Goals as goal

is : (c : goal.After-from_le_bytes) → c.from_le_bytes.result ≡ from_le_bytes w32 (decimal 4 c.args.number)
unfolding decimal
is c = omega (arith, c.from-number.ensures, c.from_le_bytes.ensures, c.digit_pair-thousands.ensures.tens, c.digit_pair-thousands.ensures.ones, c.digit_pair-tens.ensures.tens, c.digit_pair-tens.ensures.ones)

pub invariant_of-result : goal.invariant_of-result
invariant_of-result c = (of_number c.args.number c.from_le_bytes.result c.requires (omega arith) (is c)).0

pub returns : goal.returns
returns c = (of_number c.args.number c.from_le_bytes.result c.requires (omega arith) (is c)).1
