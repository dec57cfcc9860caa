use Rattle.description_tree.proofs.InnerTrees.{tree-OwnedCompound, owned-OwnedCompound}
use Rattle.description_tree.proofs.owned.compound.Goals as goal

pub returns : goal.returns
returns c = record {
  tree = rw c.in_ok-copies.was (tree-OwnedCompound c.in_ok-copies.field-0);
  owned = rw c.in_ok-copies.was (owned-OwnedCompound c.in_ok-copies.field-0);
}
