-- What a text says by items.
use Rattle.std.proofs.Common.{◌≡◌, ◌∙◌, true, ℕ, List, [], ◌∷◌, ◌++◌, map, refl, sym, ap, append_assoc}
use Rattle.parsing_layout.specs.Items.{Item, IsThere, SaysItems, possible, all_certain, all_possible, are_certain}
use Rattle.parsing_layout.specs.Layout.{Part, Values, Says}
use Rattle.parsing_layout.specs.declared.items.Item.TheVariants as item
use Rattle.std.proofs.Common.{arith}
use Rattle.std.proofs.lemmas.Bool.Decides.{nat_tests}

-- ---- parts that all stand there

pub certain_said : (ps : List Part) (line : List ℕ) (v : Values) (rest : List ℕ) (way : List Part) → SaysItems (map item.Part ps) line v rest way
    → IsThere ps line v rest way
certain_said [] line v rest way says = says
certain_said (p ∷ ps) line v rest way says =
    let others = certain_said ps says.0 v rest says.2 says.5 in
    grind (arith, nat_tests)

pub said_certain : (ps : List Part) (line : List ℕ) (v : Values) (rest : List ℕ) → Says ps line v rest → SaysItems (map item.Part ps) line v rest ps
said_certain [] line v rest says = (refl, says)
said_certain (p ∷ ps) line v rest says =
    (says.0, p ∷ [], ps, refl, (refl, (says.0, says.1, refl)), said_certain ps says.0 v rest says.2)

pub certain_items : (is : List Item) → are_certain is ≡ true → map item.Part (all_certain is) ≡ is
certain_items [] e = refl
certain_items (item.Part p ∷ is) e = ap (λ (xs : List Item). item.Part p ∷ xs) (certain_items is e)
certain_items (item.Optional b p ∷ is) e = absurd cc

pub certain_possible : (is : List Item) → are_certain is ≡ true → all_possible is ≡ all_certain is
certain_possible [] e = refl
certain_possible (item.Part p ∷ is) e = ap (λ (xs : List Part). p ∷ xs) (certain_possible is e)
certain_possible (item.Optional b p ∷ is) e = absurd cc

-- ---- two lists

pub both_say : (is js : List Item) (text mid rest : List ℕ) (v : Values) (first second : List Part) → SaysItems is text v mid first
    → SaysItems js mid v rest second → SaysItems (is ++ js) text v rest (first ++ second)
both_say [] js text mid rest v first second a b = rw (a.0, a.1) b
both_say (i ∷ is) js text mid rest v first second a b =
    (a.0, a.1, a.2 ++ second, ap (λ (xs : List Part). xs ++ second) a.3 ∙ append_assoc a.1 a.2 second, a.4, both_say is js a.0 mid rest v a.2 second a.5 b)

pub both_possible : (is js : List Item) → all_possible (is ++ js) ≡ all_possible is ++ all_possible js
both_possible [] js = refl
both_possible (i ∷ is) js = ap (λ (xs : List Part). possible i ++ xs) (both_possible is js) ∙ sym (append_assoc (possible i) (all_possible is) (all_possible js))
