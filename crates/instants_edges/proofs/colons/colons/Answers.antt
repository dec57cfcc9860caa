use Rattle.std.proofs.Common.{ℕ, ◌==◌, arith, w8}
use Rattle.std.proofs.lemmas.Simd.{bitmask_splat}
use Rattle.base.specs.Bytes.{colon}
use Rattle.instants_edges.proofs.Lanes.{bits_passing}
use Rattle.instants_edges.proofs.colons.colons.Goals as goal

pub returns : goal.returns
returns c = λ k lt none.
    let v = c.args.bytes in
    bits_passing (λ x. x == colon) v c.fits-bytes.0 _ (bitmask_splat w8 (λ (a b : ℕ). a == b) v 16 colon c.fits-bytes.0 (omega arith)) k lt none
