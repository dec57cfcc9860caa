use Rattle.std.proofs.lemmas.Simd.{get_or-chunk}
use Rattle.instants_edges.proofs.colons.load.Goals as goal

pub returns : goal.returns
returns c = λ k l. get_or-chunk c.args.place 16 c.args.bytes.now k 0 l
