use Rattle.std.proofs.Common.{arith}
use Rattle.parsing_places.proofs.LaneLemmas.{all_pass_three}
use Rattle.parsing_places.proofs.lanes.are_at_most.Goals as goal

pub returns : goal.returns
returns c = λ e k lt. all_pass_three c.args.first c.args.first_high c.args.second c.args.second_high c.args.third c.args.third_high (omega (arith, c)) (omega (arith, c)) (omega (arith, c)) (omega (arith, c)) (omega (arith, c)) (omega (arith, c)) e k lt
