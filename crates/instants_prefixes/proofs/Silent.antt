-- Items before the first that says something, and after the last that does, say nothing.
use Rattle.std.proofs.Common.{◌≡◌, ◌<◌, ◌≤◌, ◌+◌, ◌-◌, ◌∙◌, ℕ, suc, true, false, List, [], ◌∷◌, length, get_or, take, drop, refl, sym, ap, arith}
use Rattle.std.specs.Prelude.{reverse}
use Rattle.std.specs.List.{prefix_len, suffix_len}
use Rattle.std.proofs.lemmas.Bool.{not-true}
use Rattle.std.proofs.lemmas.List.{get_or-drop, get_or-reverse, get_or-take, length-drop, length-take}
use Rattle.std.proofs.lemmas.List.Sums.{prefix_len_passes, suffix_len-le-length}
use Rattle.description_items.specs.Tree.{Tree, Literal, listed}
use Rattle.instants_prefixes.specs.Has.{any_has}
use Rattle.instants_prefixes.specs.Kinds.{is_saying}
use Rattle.instants_prefixes.specs.Lengths.{is_silent, last_place}

-- an item that is no item of a list
abbrev past : Tree
past = Literal []

all_silent : (items : List Tree) → ((i : ℕ) → i < length items → is_silent (get_or items i past) ≡ true)
    → any_has true is_saying (listed items) ≡ false
all_silent [] each = refl
all_silent (t ∷ items) each = rw (not-true _ (each 0 (omega arith)), all_silent items (λ i lt. each (suc i) (omega (arith, lt)))) refl

pub silent_first : (items : List Tree) (n : ℕ) → n ≤ prefix_len is_silent items → any_has true is_saying (listed (take n items)) ≡ false
silent_first items n le =
    all_silent (take n items)
    (λ i lt.
    let few : i < n = omega (arith, lt, length-take n items) in
    ap is_silent (get_or-take n items i past few) ∙ prefix_len_passes is_silent items i past (omega (arith, few, le)))

pub silent_last : (items : List Tree) → any_has true is_saying (listed (drop (last_place items) items)) ≡ false
silent_last items =
    all_silent (drop (last_place items) items)
    (λ i lt.
    let place = last_place items + i in
    let back = length items - 1 - place in
    let silent = suffix_len is_silent items in
    let within : place < length items = omega (arith, lt, length-drop (last_place items) items) in
    let moved = get_or-reverse items back past (omega (arith, within)) in
    let same : length items - 1 - back ≡ place = omega (arith, within) in
    let passes = prefix_len_passes is_silent (reverse items) back past (omega (arith, within, suffix_len-le-length is_silent items)) in
    ap is_silent (get_or-drop (last_place items) items i past ∙ ap (λ (k : ℕ). get_or items k past) (sym same) ∙ sym moved) ∙ passes)
