use Rattle.std.proofs.Common.{arith}
use Rattle.std.proofs.lemmas.Bool.Decides.{nat_tests}
use Rattle.instants_prefixes.proofs.RuledOut.{digit_due}
use Rattle.instants_prefixes.proofs.ruled_out.lacks_digit.Goals as goal

pub returns-then-is_ascii_digit : goal.returns-then-is_ascii_digit
returns-then-is_ascii_digit c = λ e. digit_due c.args.bytes.now 2 (omega arith) (grind (arith, nat_tests))

pub returns : goal.returns
returns c = λ e. digit_due c.args.bytes.now 0 (omega arith) (grind (arith, nat_tests))
