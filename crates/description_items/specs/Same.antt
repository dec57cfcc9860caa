-- When two trees are the same.
use Rattle.std.specs.Prelude.{Bool, true, false, ◌&&◌}
use Rattle.std.specs.Str.{bytes_eq}
use Rattle.std.proofs.Math.Bool.{beq}
use Rattle.description_items.specs.contracts.component.ComponentPartialEq.TheImpl as component
use Rattle.description_items.specs.Tree.{Tree, Literal, Part, Compound, Optional, First, Trees, none, also}

-- of one kind, with the same bytes, the same component, the same items
unfoldable mutual
  pub same_tree : Tree → Tree → Bool
  same_tree (Literal a) (Literal b) = bytes_eq a b
  same_tree (Part a) (Part b) = component.ghosts.eq a b
  same_tree (Compound a) (Compound b) = same_trees a b
  same_tree (Optional x a) (Optional y b) = beq x y && same_tree a b
  same_tree (First a) (First b) = same_trees a b
  same_tree _ _ = false

  pub same_trees : Trees → Trees → Bool
  same_trees none none = true
  same_trees (also a others) (also b more) = same_tree a b && same_trees others more
  same_trees _ _ = false
