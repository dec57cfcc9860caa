use Rattle.std.proofs.Common.{◌∙◌, sym}
use Rattle.std.proofs.lemmas.Simd.{length-zip2}
use Rattle.instants_found.proofs.lanes.all_above.Goals as goal

pub returns-clause-long : goal.returns-clause-long
returns-clause-long c = length-zip2 _ c.args.bytes c.args.low (c.fits-bytes.0 ∙ sym c.fits-low.0) ∙ c.fits-bytes.0
