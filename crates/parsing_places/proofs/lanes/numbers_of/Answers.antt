use Rattle.std.proofs.Common.{arith}
use Rattle.parsing_places.proofs.LaneLemmas.{numbers_lane}
use Rattle.parsing_places.proofs.lanes.numbers_of.Goals as goal

pub returns : goal.returns
returns c = λ j lt. numbers_lane c.args.words j (omega (arith, c)) lt
