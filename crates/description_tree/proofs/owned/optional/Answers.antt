use Rattle.std.proofs.Common.{refl}
use Rattle.description_tree.proofs.InnerTrees.{tree-OwnedOptional, owned-OwnedOptional}
use Rattle.description_tree.proofs.owned.optional.Goals as goal

pub returns : goal.returns
returns c = record {
  tree = rw (c.in_ok-copy.was, tree-OwnedOptional c.args.format c.in_ok-item.item, c.in_ok-item.ensures.ok) refl;
  owned = rw (c.in_ok-copy.was, owned-OwnedOptional c.args.format c.in_ok-item.item, c.in_ok-item.ensures.ok) refl;
}
