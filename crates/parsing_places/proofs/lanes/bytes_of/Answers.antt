use Rattle.std.proofs.Common.{w16}
use Rattle.std.proofs.lemmas.Simd.{below_from_Fits}
use Rattle.parsing_places.proofs.LaneLemmas.{byte_at}
use Rattle.parsing_places.proofs.lanes.bytes_of.Goals as goal

pub returns : goal.returns
returns c = λ j lt. byte_at c.args.words j (below_from_Fits w16 c.args.words c.fits-words.1) lt
