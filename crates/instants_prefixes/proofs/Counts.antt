-- Texts at the start of a list, counted one after the other.
use Rattle.std.proofs.Common.{◌≡◌, ◌+◌, ◌<◌, ◌≤◌, ℕ, List, length, get_or, drop, map, Some, refl}
use Rattle.std.proofs.lemmas.List.{drop_all, drop_more}
use Rattle.description_items.specs.Tree.{Tree, Literal}
use Rattle.instants_prefixes.specs.Ends.{text_length}

pub text_more : {X : Type 0} (tree : X → Tree) (xs : List X) (i : ℕ) (x : X) (text : List ℕ) (rest : ℕ) → i < length xs → x ≡ get_or xs i x → tree x ≡ Literal text → text_length (map tree (drop (i + 1) xs)) ≡ Some rest → text_length (map tree (drop i xs)) ≡ Some (length text + rest)
text_more tree xs i x text rest lt e is others = rw (drop_more xs i x lt, ← e, is, others) refl

pub no_more : {X : Type 0} (tree : X → Tree) (xs : List X) (i : ℕ) → length xs ≤ i → text_length (map tree (drop i xs)) ≡ Some 0
no_more tree xs i le = rw (drop_all i xs le) refl
