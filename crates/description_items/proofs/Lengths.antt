-- Lists of different lengths are not the same.
use Rattle.std.proofs.Common.{◌≡◌, suc, Bool, true, false, ◌&&◌, List, [], ◌∷◌, length, refl, ap, ◌∙◌}
use Rattle.description_items.specs.declared.item.BorrowedFormatItem.{BorrowedFormatItem}
use Rattle.description_items.specs.Tree.{tree_of, trees, listed}
use Rattle.description_items.specs.Same.{same_tree, same_trees}

and_false : (b : Bool) → b && false ≡ false
and_false true = refl
and_false false = refl

pub different_lengths : (xs ys : List BorrowedFormatItem) → (length xs ≡ length ys → ⊥) → same_trees (listed (trees xs)) (listed (trees ys)) ≡ false
unfolding same_trees
different_lengths [] [] h = absurd (h refl)
different_lengths [] (y ∷ ys) h = refl
different_lengths (x ∷ xs) [] h = refl
different_lengths (x ∷ xs) (y ∷ ys) h =
    ap (λ b. same_tree (tree_of x) (tree_of y) && b) (different_lengths xs ys (λ e. h (ap suc e))) ∙ and_false (same_tree (tree_of x) (tree_of y))
