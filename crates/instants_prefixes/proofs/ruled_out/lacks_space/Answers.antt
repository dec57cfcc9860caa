use Rattle.std.proofs.Common.{arith}
use Rattle.std.proofs.lemmas.Bool.Decides.{nat_tests}
use Rattle.instants_prefixes.proofs.RuledOut.{space_due}
use Rattle.instants_prefixes.proofs.ruled_out.lacks_space.Goals as goal

pub returns-then-is_ascii_digit : goal.returns-then-is_ascii_digit
returns-then-is_ascii_digit c = λ e. space_due c.args.bytes.now c.requires (grind (arith, nat_tests))

pub returns-else-is_ascii_digit : goal.returns-else-is_ascii_digit
returns-else-is_ascii_digit c = λ e. space_due c.args.bytes.now c.requires (grind (arith, nat_tests))
