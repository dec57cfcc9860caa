-- The abbreviations of a zone, place by place.
use Rattle.std.proofs.Common.{◌≡◌, ℕ, suc, ◌+◌, ◌-◌, ◌<◌, ◌≤◌, ◌==◌, ◌∙◌, Bool, true, false, cond, not, ◌||◌, List, [], ◌∷◌, length, get_or, set, drop, nat_eq, ap, subst, refl, arith, add-one, drop-cons}
use Rattle.std.specs.Prelude.{bytes_eq}
use Rattle.std.proofs.lemmas.List.{get_or-drop, get_or-set_other}
use Rattle.std.proofs.lemmas.Grind.{get_or-set_at}
use Rattle.std.proofs.Math.Bool.{and-false}
use Rattle.std.proofs.lemmas.List.Sums.{take_while-cons}
use Rattle.std.proofs.lemmas.List.Folds.{list_any_at, list_any_none}
use Rattle.zones_clock.specs.Steps.{has_byte, name_in, is_name}
use Rattle.std.specs.List.{All, list_any, range_with_len, take_while}
use Rattle.std.proofs.lemmas.List.Elements.{All-from_get_or}
use Rattle.std.proofs.lemmas.List.FromFn.{get_or-range_with_len, length-range_with_len}

abbrev pub any_from : (ℕ → Bool) → ℕ → ℕ → Bool
any_from is place to = list_any is (range_with_len place (to - place))

pub any_more : (is : ℕ → Bool) (place to : ℕ) → place < to → any_from is place to ≡ (is place || any_from is (place + 1) to)
any_more is place to lt = let many : to - place ≡ suc (to - (place + 1)) = omega (arith, lt) in rw many refl

pub any_none : (is : ℕ → Bool) (place to : ℕ) → to ≤ place → any_from is place to ≡ false
any_none is place to le = let none : to - place ≡ 0 = omega (arith, le) in rw none refl

-- the abbreviation of a place begins with the byte there, if it has one
begins_so : (letters word : List ℕ) → 0 < length word → (get_or letters 0 0 == get_or word 0 0) ≡ false → bytes_eq (name_in letters 0) word ≡ false
begins_so letters [] some other = absurd (omega (arith, some))
begins_so [] (w ∷ word) some other = refl
begins_so (c ∷ letters) (w ∷ word) some other = rw (take_while-cons (λ byte. not (byte == 0)) c letters) (elim (c == 0) as (λ b. bytes_eq (cond (not b) (c ∷ take_while (λ byte. not (byte == 0)) letters) []) (w ∷ word) ≡ false) [
  | true ↦ refl
  | false ↦ grind (arith, other)
])

pub name_other : (letters word : List ℕ) (place : ℕ) → 0 < length word → (get_or letters place 0 == get_or word 0 0) ≡ false → bytes_eq (name_in letters place) word ≡ false
name_other letters word place some other =
    let at : get_or (drop place letters) 0 0 ≡ get_or letters place 0 = get_or-drop place letters 0 0 ∙ ap (λ k. get_or letters k 0) (omega arith) in
    begins_so (drop place letters) word some (rw at other)

-- once a letter's byte is marked, the letter itself tells nothing more
pub marked_more : (marks : List Bool) (letters : List ℕ) (place byte : ℕ) → place < length letters → get_or letters place 0 < length marks
    → (get_or (set marks (get_or letters place 0) true) byte false || has_byte (drop (place + 1) letters) byte) ≡ (get_or marks byte false || has_byte (drop place letters) byte)
marked_more marks letters place byte lt within = rw (drop-cons letters place 0 lt, add-one) (elim (nat_eq byte (get_or letters place 0)) as (λ b. nat_eq byte (get_or letters place 0) ≡ b
    → (get_or (set marks (get_or letters place 0) true) byte false || has_byte (drop (suc place) letters) byte) ≡ (get_or marks byte false || (nat_eq (get_or letters place 0) byte || has_byte (drop (suc place) letters) byte))) [
      | true ↦ λ e. let at = get_or-set_at marks (get_or letters place 0) byte true false (grind (arith, e)) within in grind (arith, at, e)
      | false ↦ λ e. let at = get_or-set_other marks (get_or letters place 0) byte true false (grind (arith, e)) in grind (arith, at, e)
    ] refl)

not_there : (letters : List ℕ) (place byte w : ℕ) → has_byte letters byte ≡ false → w ≡ byte → place < length letters → (get_or letters place 0 == w) ≡ false
not_there letters place byte w none same lt = elim (get_or letters place 0 == byte) as (λ b. (get_or letters place 0 == byte) ≡ b → (get_or letters place 0 == w) ≡ false) [
  | true ↦ λ e. let is = list_any_at (λ letter. letter == byte) letters place 0 lt e in absurd cc
  | false ↦ λ e. rw same e
] refl

-- no abbreviation begins with a byte that the letters have not
pub none_begins : (letters word : List ℕ) (first : ℕ) → has_byte letters first ≡ false → get_or word 0 first ≡ first → is_name letters word ≡ false
unfolding is_name
none_begins letters [] first none begins = refl
none_begins letters (w ∷ word) first none begins =
    let is = λ (place : ℕ). bytes_eq (name_in letters place) (w ∷ word) in
    let each : All (λ place. is place ≡ false) (range_with_len 0 (length letters)) = All-from_get_or (λ place. is place ≡ false) (range_with_len 0 (length letters)) 0 (λ i lt.
    let below : i < length letters = subst (λ n. i < n) (length-range_with_len 0 (length letters)) lt in
    let other : (get_or letters i 0 == w) ≡ false = not_there letters i first w none begins below in
    let at : get_or (range_with_len 0 (length letters)) i 0 ≡ i = get_or-range_with_len 0 (length letters) i 0 below ∙ omega arith in
    rw at (name_other letters (w ∷ word) i (omega arith) other)) in
    rw (list_any_none is _ each) (and-false _)
