use Rattle.std.proofs.Common.{ℕ, min, subst, arith, w64}
use Rattle.std.specs.Int.{trailing_zeros}
use Rattle.std.proofs.lemmas.Nat.Bits.{bit_at-trailing_zeros}
use Rattle.instants_fields.proofs.PlainRuns.{BeginPlain, more_plain, plain_sixteen}
use Rattle.instants_fields.proofs.plain.many_plain.Goals as goal

pub returns-then-others-ne0-clause-plain : goal.returns-then-others-ne0-clause-plain
returns-then-others-ne0-clause-plain c =
    let bits = c.others-others.result in
    let passed = bit_at-trailing_zeros w64 bits (omega arith) (omega arith) in
    let few : ℕ = min (trailing_zeros w64 bits) 16 in
    let plain : BeginPlain few c.after.result.now = λ k lt. c.others-others.ensures k (omega (arith, lt)) (passed.2 k (omega (arith, lt))) in
    rw c.min.ensures (more_plain c.loop-count.count few c.args.text.now c.loop-count.invariant.plain (subst (BeginPlain few) c.after.ensures plain))

pub loop-count-preserved : goal.loop-count-preserved
loop-count-preserved c =
    let plain = plain_sixteen c.after.result.now c.others-others.result c.if-others-ne0.false c.others-others.ensures in
    record {
      plain = more_plain c.loop-count.count 16 c.args.text.now c.loop-count.invariant.plain (subst (BeginPlain 16) c.after.ensures plain);
      within = omega arith;
    }

pub returns-clause-plain : goal.returns-clause-plain
returns-clause-plain c =
    more_plain c.loop-count.count c.few_plain.result c.args.text.now c.loop-count.invariant.plain (subst (BeginPlain c.few_plain.result) c.after-2.ensures c.few_plain.ensures.plain)
