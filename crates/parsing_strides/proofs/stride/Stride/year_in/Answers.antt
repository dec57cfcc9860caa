use Rattle.std.proofs.Common.{arith}
use Rattle.parsing_strides.proofs.PlaceLemmas.{Lies, year_pairs}
use Rattle.parsing_strides.proofs.stride.Stride.year_in.Goals as goal

pub of_digits-requires : goal.of_digits-requires
of_digits-requires c =
    let s = c.args.self.now in
    let lies : Lies s.low s.most c.args.text.now s.length = record { room = c.requires.room; small = λ k. omega (arith, c.type_inv.text k); fits = c.requires.fits } in
    let pairs = year_pairs lies s.year (omega (arith, c.if-self-ge-NOWHERE.false)) s.year_is in
    record { high = pairs.0; low = pairs.1 }
