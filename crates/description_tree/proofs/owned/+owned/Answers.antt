use Rattle.std.proofs.Common.{arith}
use Rattle.std.proofs.lemmas.Grind.{common_steps}
use Rattle.description_items.proofs.FormLists.{all_push}
use Rattle.description_tree.specs.Forms.{is_owned}
use Rattle.description_tree.proofs.owned.+owned.Goals as goal

pub all_owned-loop-node-preserved : goal.all_owned-loop-node-preserved
all_owned-loop-node-preserved t c = record {
  trees = grind (arith, common_steps);
  owned = rw c.in_ok-push.ensures.items (all_push is_owned c.loop-node.copies.items c.in_ok-owned.field-0 c.loop-node.invariant.owned c.in_ok-owned.ensures.owned);
}
