use Rattle.std.proofs.Common.{ℕ, ◌==◌, arith, w8}
use Rattle.std.proofs.lemmas.Simd.{bitmask_splat}
use Rattle.instants_fields.proofs.PlainRuns.{bits_passing}
use Rattle.instants_fields.proofs.plain.bits_of.Goals as goal

pub returns : goal.returns
returns c = λ k lt none.
    bits_passing (λ x. x == c.args.byte) c.args.bytes c.fits-bytes.0 _ (bitmask_splat w8 (λ (a b : ℕ). a == b) c.args.bytes 16 c.args.byte c.fits-bytes.0 (omega arith)) k lt none
