use Rattle.std.proofs.Common.{arith}
use Rattle.std.proofs.lemmas.Simd.{dot4_Fits}
use Rattle.parsing_places.proofs.LaneLemmas.{sums_are}
use Rattle.parsing_places.proofs.lanes.sums.Goals as goal

pub dot4 : goal.dot4
dot4 c = (dot4_Fits c.args.numbers _ c.fits-numbers.1 tt, tt)

pub returns : goal.returns
returns c =
    let s = sums_are c.args.numbers (omega (arith, c)) in
    record { first = s.0; second = s.1; third = s.2; fourth = s.3 }
