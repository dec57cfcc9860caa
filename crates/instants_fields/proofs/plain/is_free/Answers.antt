use Rattle.std.proofs.Common.{◌≡◌, arith}
use Rattle.std.proofs.lemmas.Bool.Decides.{nat_tests}
use Rattle.instants_fields.proofs.PlainRuns.{no_bit}
use Rattle.instants_fields.proofs.plain.is_free.Goals as goal

pub returns : goal.returns
returns c = λ none k lt.
    let zero : c.bits_of.result ≡ 0 = grind (arith, nat_tests, none) in
    rw (c.load.ensures k lt) at (c.bits_of.ensures k lt (no_bit c.bits_of.result k zero))
