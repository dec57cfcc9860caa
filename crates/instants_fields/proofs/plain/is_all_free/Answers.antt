use Rattle.std.proofs.Common.{◌-◌, length, subst, arith}
use Rattle.instants_fields.proofs.PlainRuns.{BeginFree, more_free, all_free}
use Rattle.instants_fields.proofs.plain.is_all_free.Goals as goal

pub loop-count-preserved : goal.loop-count-preserved
loop-count-preserved c = record {
  free = more_free c.loop-count.count 16 c.args.text.now c.loop-count.invariant.free (subst (BeginFree 16) c.after.ensures (c.is_free.ensures c.if-not-is_free.false));
  within = omega arith;
}

pub returns : goal.returns
returns c = λ free. all_free c.loop-count.count (length c.args.text.now - 16) c.args.text.now (omega arith) (omega arith) c.loop-count.invariant.free (subst (BeginFree 16) c.after-2.ensures (c.is_free-2.ensures free))
