use Rattle.std.proofs.Common.{arith}
use Rattle.parsing_strides.proofs.LaneLemmas.{number_lane}
use Rattle.parsing_strides.proofs.lanes.numbers_of.Goals as goal

pub returns : goal.returns
returns c = λ k lt small. number_lane c.args.tens c.args.ones k (omega (arith, c)) (omega (arith, c)) lt small
