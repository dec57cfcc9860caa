-- The nodes of a list of trees, counted one tree after the other.
use Rattle.std.proofs.Common.{◌≡◌, ℕ, suc, ◌+◌, ◌<◌, ◌≤◌, List, length, get_or, drop, map, refl, sym, ap, ◌∙◌, arith, drop-cons}
use Rattle.std.proofs.lemmas.List.{drop_all}
use Rattle.description_items.specs.Tree.{Tree, listed}
use Rattle.description.specs.Laws.{nodes, all_nodes}

-- the nodes of what stands from an index on
abbrev pub nodes_from : {X : Type 0} → (X → Tree) → List X → ℕ → ℕ
nodes_from tree xs i = all_nodes (listed (map tree (drop i xs)))

pub next_nodes : {X : Type 0} (tree : X → Tree) (xs : List X) (i : ℕ) (x : X) → i < length xs → x ≡ get_or xs i x → nodes_from tree xs i ≡ nodes (tree x) + nodes_from tree xs (i + 1)
unfolding all_nodes
next_nodes tree xs i x lt e = ap (λ ys. all_nodes (listed (map tree ys))) (drop-cons xs i x lt) ∙ ap (λ y. nodes (tree y) + nodes_from tree xs (suc i)) (sym e) ∙ ap (λ k. nodes (tree x) + nodes_from tree xs k) (let s : suc i ≡ i + 1 = omega arith in s)

pub no_nodes : {X : Type 0} (tree : X → Tree) (xs : List X) (i : ℕ) → length xs ≤ i → nodes_from tree xs i ≡ 0
unfolding all_nodes
no_nodes tree xs i le = rw (drop_all i xs le) refl
