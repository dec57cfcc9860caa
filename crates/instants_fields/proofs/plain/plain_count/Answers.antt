use Rattle.std.proofs.Common.{min, subst, arith, w64}
use Rattle.std.specs.Int.{trailing_zeros}
use Rattle.std.proofs.lemmas.Nat.Bits.{bit_at-trailing_zeros}
use Rattle.instants_fields.proofs.PlainRuns.{BeginPlain, more_plain, plain_sixteen}
use Rattle.instants_fields.proofs.plain.plain_count.Goals as goal

pub returns-then-others-ne0-clause-plain : goal.returns-then-others-ne0-clause-plain
returns-then-others-ne0-clause-plain c =
    let bits = c.others-others.result in
    let passed = bit_at-trailing_zeros w64 bits (omega arith) (omega arith) in
    let plain : BeginPlain (min (trailing_zeros w64 bits) 16) c.args.text.now = λ k lt. c.others-others.ensures k (omega (arith, lt)) (passed.2 k (omega (arith, lt))) in
    rw c.min.ensures plain

pub returns-clause-plain : goal.returns-clause-plain
returns-clause-plain c =
    more_plain 16 c.many_plain.result c.args.text.now (plain_sixteen c.args.text.now c.others-others.result c.if-others-ne0.false c.others-others.ensures)
    (subst (BeginPlain c.many_plain.result) c.after.ensures c.many_plain.ensures.plain)
