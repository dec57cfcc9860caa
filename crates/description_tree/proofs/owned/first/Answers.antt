use Rattle.description_tree.proofs.InnerTrees.{tree-OwnedFirst, owned-OwnedFirst}
use Rattle.description_tree.proofs.owned.first.Goals as goal

pub returns : goal.returns
returns c = record {
  tree = rw c.in_ok-copies.was (tree-OwnedFirst c.in_ok-copies.field-0);
  owned = rw c.in_ok-copies.was (owned-OwnedFirst c.in_ok-copies.field-0);
}
