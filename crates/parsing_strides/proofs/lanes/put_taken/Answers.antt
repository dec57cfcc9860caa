use Rattle.std.proofs.Common.{◌∙◌, arith}
use Rattle.parsing_strides.proofs.LaneLemmas.{put_lane, small_there, large_there}
use Rattle.parsing_strides.proofs.lanes.put_taken.Goals as goal

pub returns-clause-taken : goal.returns-clause-taken
returns-clause-taken c = λ k lt small. put_lane c.args.moves.now.lanes c.args.lanes c.args.numbers k (omega (arith, c)) (omega (arith, c)) (omega (arith, c)) lt ∙ small_there _ _ _ small

pub returns-clause-kept : goal.returns-clause-kept
returns-clause-kept c = λ k lt large. put_lane c.args.moves.now.lanes c.args.lanes c.args.numbers k (omega (arith, c)) (omega (arith, c)) (omega (arith, c)) lt ∙ large_there _ _ _ large
