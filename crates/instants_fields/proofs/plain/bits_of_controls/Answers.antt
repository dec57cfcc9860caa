use Rattle.std.proofs.Common.{◌≡◌, leb, false, get_or, arith, w8}
use Rattle.std.proofs.lemmas.Simd.{bitmask_splat}
use Rattle.std.proofs.lemmas.Bool.Decides.{nat_tests}
use Rattle.instants_fields.proofs.PlainRuns.{bits_passing}
use Rattle.instants_fields.proofs.plain.bits_of_controls.Goals as goal

pub returns : goal.returns
returns c = λ k lt none.
    let v = c.args.bytes in
    let above : leb (get_or v k 0) 31 ≡ false = bits_passing (λ x. leb x 31) v c.fits-bytes.0 _ (bitmask_splat w8 leb v 16 31 c.fits-bytes.0 (omega arith)) k lt none in
    grind (arith, nat_tests, above)
