use Rattle.std.proofs.Common.{arith, refl}
use Rattle.parsing_combinator.proofs.Fitting.{fitting}
use Rattle.parsing_combinator.proofs.chunk.above_zeros.Goals as goal

pub returns : goal.returns
returns c =
    let f = fitting c.args.chunk 17_361_641_481_138_401_520 3_472_328_296_227_680_304 434_041_037_028_460_038 (omega arith) (omega arith) refl c.if-above-ne0.false in
    record { above = omega (arith, f.above, f.low); digits = record { here = f.here; above = f.more } }
