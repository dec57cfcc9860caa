use Rattle.std.proofs.Common.{arith}
use Rattle.std.proofs.lemmas.Grind.{common_steps}
use Rattle.description_strftime.proofs.items.push_composite.Goals as goal

pub loop-byte-preserved : goal.loop-byte-preserved
loop-byte-preserved c = record {
  items = grind (arith, common_steps);
  form = λ begun. c.in_ok-push_item.ensures.form (c.loop-byte.invariant.form begun) c.part_of.ensures.form;
}
