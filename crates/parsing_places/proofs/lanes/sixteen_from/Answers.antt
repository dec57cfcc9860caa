use Rattle.std.proofs.lemmas.Simd.{get_or-chunk}
use Rattle.parsing_places.proofs.lanes.sixteen_from.Goals as goal

pub returns-clause-bytes : goal.returns-clause-bytes
returns-clause-bytes c = λ k lt. get_or-chunk c.args.place 16 c.args.text.now k 0 lt
