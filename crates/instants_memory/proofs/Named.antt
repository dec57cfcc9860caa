-- Names come back from their numbers.
use Rattle.std.proofs.Common.{◌≡◌, ◌≢◌, ℕ, suc, ◌+◌, ◌-◌, ◌≤◌, true, false, cond, List, [], ◌∷◌, get_or, refl, sym, ap, ◌∙◌, arith}
use Rattle.std.proofs.lemmas.Slice.Eq.{bytes_eq-Decides}
use Rattle.std.specs.Str.{bytes_eq}
use Rattle.instants_memory.specs.Numbers.{name_number, names, number_in}
use Rattle.instants_memory.specs.Printed.{name_numbered}

-- a name is found where its number says
record IsFound (name : List ℕ) (first : ℕ) (some : List (List ℕ)) (number : ℕ) : Type 0 where
  low : first ≤ number
  is : get_or some (number - first) [] ≡ name

found_later : (name known : List ℕ) (first : ℕ) (others : List (List ℕ)) (number : ℕ) → IsFound name (first + 1) others number → IsFound name first (known ∷ others) number
found_later name known first others number found =
    let low = found.low in
    let place : number - first ≡ suc (number - (first + 1)) = omega (arith, low) in
    record { low = omega (arith, low); is = ap (λ n. get_or (known ∷ others) n []) place ∙ found.is }

found_here : (name known : List ℕ) (first : ℕ) (others : List (List ℕ)) → known ≡ name → IsFound name first (known ∷ others) first
found_here name known first others same =
    let none : first - first ≡ 0 = omega arith in
    record { low = omega arith; is = ap (λ n. get_or (known ∷ others) n []) none ∙ same }

found : (name : List ℕ) (first : ℕ) (some : List (List ℕ)) → number_in name first some ≢ 0 → IsFound name first some (number_in name first some)
found name first [] h = absurd (h refl)
found name first (known ∷ others) h =
    elim (bytes_eq name known) as (λ v. bytes_eq name known ≡ v → cond v first (number_in name (first + 1) others) ≢ 0 → IsFound name first (known ∷ others) (cond v first (number_in name (first + 1) others))) [
      | true ↦ λ e h. found_here name known first others (sym ((bytes_eq-Decides name known).0 e))
      | false ↦ λ e h. found_later name known first others _ (found name (first + 1) others h)
    ] refl h

pub named : (name : List ℕ) → name_number name ≢ 0 → name_numbered (name_number name) ≡ name
unfolding name_number name_numbered
named name h = (found name 1 names h).is
