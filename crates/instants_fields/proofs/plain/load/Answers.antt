use Rattle.std.proofs.Common.{◌∙◌, ap, get_or, arith}
use Rattle.std.proofs.lemmas.Simd.{get_or-chunk}
use Rattle.instants_fields.proofs.plain.load.Goals as goal

pub returns : goal.returns
returns c = λ k l. get_or-chunk 0 16 c.args.text.now k 0 l ∙ ap (λ i. get_or c.args.text.now i 0) (omega arith)
