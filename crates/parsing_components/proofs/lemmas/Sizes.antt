-- How large trees are: those inside a tree are smaller.
use Rattle.std.proofs.Common.{◌≡◌, ℕ, zero, suc, ◌+◌, ◌<◌, ◌≤◌, ◌∙◌, List, [], ◌∷◌, length, map, drop, get_or, sym, ap, arith}
use Rattle.std.proofs.lemmas.List.{drop_more}
use Rattle.description_items.specs.Tree.{Tree, Trees, Literal, Part, Compound, Optional, First, none, also, listed}

unfoldable mutual
  pub size : Tree → ℕ
  size (Literal text) = 1
  size (Part c) = 1
  size (Compound ts) = 1 + size_all ts
  size (Optional format t) = 1 + size t
  size (First ts) = 1 + size_all ts

  pub size_all : Trees → ℕ
  size_all none = 0
  size_all (also t ts) = size t + size_all ts

pub one_of_them : {X : Type 0} (tree : X → Tree) (xs : List X) (i : ℕ) (default : X) → i < length xs → size (tree (get_or xs i default)) ≤ size_all (listed (map tree xs))
unfolding size
one_of_them tree [] i default lt = omega (arith, lt)
one_of_them tree (x ∷ xs) zero default lt = omega arith
one_of_them tree (x ∷ xs) (suc i) default lt = let below = one_of_them tree xs i default (omega (arith, lt)) in omega (arith, below)

-- the trees of the items from a place on, of which the first one is the item there
abbrev pub from : {X : Type 0} → (X → Tree) → List X → ℕ → Trees
from tree xs i = listed (map tree (drop i xs))

pub split : {X : Type 0} (tree : X → Tree) (xs : List X) (i : ℕ) (x : X) → i < length xs → x ≡ get_or xs i x → from tree xs i ≡ also (tree x) (from tree xs (i + 1))
split tree xs i x lt e = ap (λ ys. listed (map tree ys)) (drop_more xs i x lt) ∙ ap (λ y. also (tree y) (from tree xs (i + 1))) (sym e)
