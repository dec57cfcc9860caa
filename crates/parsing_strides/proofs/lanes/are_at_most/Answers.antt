use Rattle.std.proofs.Common.{arith}
use Rattle.parsing_places.proofs.LaneLemmas.{all_pass}
use Rattle.parsing_strides.proofs.lanes.are_at_most.Goals as goal

pub returns : goal.returns
returns c = λ e k lt. all_pass c.args.bytes c.args.most (omega (arith, c)) (omega (arith, c)) e k lt
