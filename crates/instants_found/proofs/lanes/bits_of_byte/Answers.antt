use Rattle.std.proofs.Common.{ℕ, ◌==◌}
use Rattle.instants_edges.proofs.Lanes.{bits_passing}
use Rattle.instants_found.proofs.LaneLemmas.{compared}
use Rattle.instants_found.proofs.lanes.bits_of_byte.Goals as goal

pub returns : goal.returns
returns c = λ k lt none.
    let v = c.args.bytes in
    let byte = c.args.byte.now in
    bits_passing (λ x. x == byte.byte) v c.fits-bytes.0 _ (compared (λ (a b : ℕ). a == b) v byte.lanes byte.byte byte.spread c.fits-bytes.0) k lt none
