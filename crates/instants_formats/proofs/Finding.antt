-- The first of a list that passes a test, seen otherwise.
use Rattle.std.proofs.Common.{◌≡◌, refl, Bool, true, false, cond, List, [], ◌∷◌, map, Option, None, Some, option_map}
use Rattle.std.specs.List.{find}

pub find-map : {A B : Type 0} (v : A → B) (test : B → Bool) (xs : List A) → find test (map v xs) ≡ option_map v (find (λ x. test (v x)) xs)
find-map v test [] = refl
find-map v test (x ∷ xs) = elim (test (v x)) as (λ b. cond b (Some (v x)) (find test (map v xs)) ≡ option_map v (cond b (Some x) (find (λ y. test (v y)) xs))) [ true ↦ refl | false ↦ find-map v test xs ]

pub option_map-map : {A B C : Type 0} (u : A → B) (v : B → C) (one : Option A) → option_map (λ x. v (u x)) one ≡ option_map v (option_map u one)
option_map-map u v None = refl
option_map-map u v (Some x) = refl
