-- The texts before the first item that says something and after the last.
use mathlib.Core.List.{reverse_aux}
use Rattle.std.proofs.Common.{◌≡◌, ◌+◌, ◌-◌, ℕ, Bool, cond, List, [], ◌∷◌, length, take, drop, map, reverse, Option, Some, None, refl, ap}
use Rattle.std.specs.Prelude.{IfSome}
use Rattle.std.specs.Option.{ForSome}
use Rattle.std.specs.List.{prefix_len, suffix_len}
use Rattle.std.proofs.lemmas.List.{take-map, drop-map, length-map}
use Rattle.description_items.specs.Tree.{Tree}
use Rattle.instants_prefixes.specs.Ends.{text_length}
use Rattle.instants_prefixes.specs.Lengths.{is_silent, before_first, last_place}
use Rattle.instants_prefixes.specs.declared.ends.Texts.{Texts}

-- counted before a change or after it
pub prefix_map : {X : Type 0} (p : Tree → Bool) (tree : X → Tree) (xs : List X) → prefix_len (λ x. p (tree x)) xs ≡ prefix_len p (map tree xs)
prefix_map p tree [] = refl
prefix_map p tree (x ∷ xs) = ap (λ n. cond (p (tree x)) (1 + n) 0) (prefix_map p tree xs)

reversed_map : {X : Type 0} (tree : X → Tree) (xs ys : List X) → map tree (reverse_aux xs ys) ≡ reverse_aux (map tree xs) (map tree ys)
reversed_map tree [] ys = refl
reversed_map tree (x ∷ xs) ys = reversed_map tree xs (x ∷ ys)

pub last_is : {X : Type 0} (tree : X → Tree) (nodes : List X) (silent : ℕ) → silent ≡ suffix_len (λ x. is_silent (tree x)) nodes → length nodes - silent ≡ last_place (map tree nodes)
last_is tree nodes silent e = rw (e, prefix_map is_silent tree (reverse nodes), reversed_map tree nodes [], length-map nodes tree) refl

pub texts_of : {X : Type 0} (tree : X → Tree) (nodes : List X) (first last : ℕ) (o : Option Texts) → first ≡ prefix_len is_silent (map tree nodes) → last ≡ last_place (map tree nodes) → IfSome o (λ texts. text_length (map tree (take first nodes)) ≡ Some texts.prefix) → IfSome o (λ texts. text_length (map tree (drop last nodes)) ≡ Some texts.back)
    → ForSome o (λ texts. (text_length (before_first (map tree nodes)) ≡ Some texts.prefix) × (text_length (drop (last_place (map tree nodes)) (map tree nodes)) ≡ Some texts.back))
texts_of tree nodes first last None f l prefix back = λ texts is. absurd cc
texts_of tree nodes first last (Some t) f l prefix back = λ texts is.
    let same : t ≡ texts = cc in
    rw (← same, ← f, ← l, take-map, drop-map) (prefix, back)
