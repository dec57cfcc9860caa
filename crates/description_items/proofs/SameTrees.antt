-- Trees that equality takes for the same are equal.
use Rattle.std.proofs.Common.{◌≡◌, true, refl, sym, ap, subst, true≢false}
use Rattle.std.specs.Prelude.{◌↔◌}
use Rattle.std.specs.Cmp.{first_so, second_so}
use Rattle.std.proofs.Math.Bool.{beq}
use Rattle.std.proofs.lemmas.Slice.Eq.{bytes_eq-Decides}
use Rattle.description_items.specs.Tree.{Tree, Literal, Part, Compound, Optional, First, Trees, none, also}
use Rattle.description_items.specs.Same.{same_tree, same_trees}
use Rattle.description_items.specs.SameLaws.{same_equivalence}
use Rattle.description_items.proofs.SameChoices.{same_truth}
use Rattle.description_items.proofs.SameComponents.{both, same_component}

mutual
  unfolding same_tree

  equal : (s t : Tree) → same_tree s t ≡ true → s ≡ t
  equal (Literal a) (Literal b) h = ap Literal ((bytes_eq-Decides a b).0 h)
  equal (Part a) (Part b) h = ap Part (same_component a b h)
  equal (Compound a) (Compound b) h = ap Compound (all_equal a b h)
  equal (Optional x a) (Optional y b) h = both Optional (same_truth x y (first_so (beq x y) (same_tree a b) h)) (equal a b (second_so (beq x y) (same_tree a b) h))
  equal (First a) (First b) h = ap First (all_equal a b h)
  equal _ _ h = absurd (true≢false (sym h))

  all_equal : (ss ts : Trees) → same_trees ss ts ≡ true → ss ≡ ts
  all_equal none none h = refl
  all_equal (also s ss) (also t ts) h = both also (equal s t (first_so (same_tree s t) (same_trees ss ts) h)) (all_equal ss ts (second_so (same_tree s t) (same_trees ss ts) h))
  all_equal _ _ h = absurd (true≢false (sym h))

pub same_exactly : (one other : Tree) → (same_tree one other ≡ true) ↔ (one ≡ other)
same_exactly one other = (equal one other, λ e. subst (λ t. same_tree one t ≡ true) e (same_equivalence.refl one))
