-- A clock between two steps.
use Rattle.std.proofs.Common.{◌≡◌, ℕ, zero, suc, ◌+◌, ◌<◌, ◌≤◌, ◌⊎◌, inl, inr, refl, ◌∙◌, arith, true, false, ℤ, ◌<ℤ◌, ◌≤ℤ◌, int_le, int_lt, List, [], ◌∷◌, length, subst, below_more}
use Rattle.std.specs.List.Sorted.{IsPartitionPoint, IsPartitionedBy}
use Rattle.std.proofs.lemmas.Int.{ints}
use Rattle.std.proofs.lemmas.List.{get_or_default}
use Rattle.zones_clock.specs.declared.zone.Step.{Step}
use Rattle.zones_clock.specs.Steps.{InOrder, AreOffsets, IsOffset, offset_at, offset_after, name_place_at, name_place_after, no_step, step_at}
use Rattle.zones_clock.specs.Search.{AllBegun, IsIn}

pub lt-true : (a b : ℤ) → a <ℤ b → int_lt a b ≡ true
lt-true a b h = grind (arith, ints)

pub lt-false : (a b : ℤ) → b ≤ℤ a → int_lt a b ≡ false
lt-false a b h = grind (arith, ints)

pub le-true : (a b : ℤ) → a ≤ℤ b → int_le a b ≡ true
le-true a b h = grind (arith, ints)

pub le-false : (a b : ℤ) → b <ℤ a → int_le a b ≡ false
le-false a b h = grind (arith, ints)

in-tail : (s : Step) (ss : List Step) (count : ℕ) (t : ℤ) → IsIn (s ∷ ss) (suc count) t → IsIn ss count t
in-tail s ss count t h = (λ i lt. h.0 (suc i) (omega arith), λ lt. h.1 (omega arith))

-- between two steps the clock has the offset of the first of them; a moment may have gone through a call
pub offset_between : (first : ℤ) (steps : List Step) (count : ℕ) (passed t : ℤ) → passed ≡ t → count ≤ length steps → IsIn steps count passed → offset_at first steps t ≡ offset_after first steps count
unfolding offset_at
offset_between first [] zero passed t e within h = refl
offset_between first [] (suc count) passed t e within h = absurd (omega arith)
offset_between first (s ∷ ss) zero passed t e within h = rw (lt-true t s.from (omega (arith, ints, h.1 (omega arith)))) refl
offset_between first (s ∷ ss) (suc count) passed t e within h =
    let same : offset_after s.offset ss count ≡ (step_at (s ∷ ss) count).offset = elim count as (λ n. offset_after s.offset ss n ≡ (step_at (s ∷ ss) n).offset) [ zero ↦ refl | suc n ↦ refl ] in
    rw (lt-false t s.from (omega (arith, ints, h.0 0 (omega arith)))) (offset_between s.offset ss count passed t e (omega arith) (in-tail s ss count passed h) ∙ same)

pub name_place_between : (first : ℕ) (steps : List Step) (count : ℕ) (passed t : ℤ) → passed ≡ t → count ≤ length steps → IsIn steps count passed → name_place_at first steps t ≡ name_place_after first steps count
unfolding name_place_at
name_place_between first [] zero passed t e within h = refl
name_place_between first [] (suc count) passed t e within h = absurd (omega arith)
name_place_between first (s ∷ ss) zero passed t e within h = rw (lt-true t s.from (omega (arith, ints, h.1 (omega arith)))) refl
name_place_between first (s ∷ ss) (suc count) passed t e within h =
    let same : name_place_after s.name ss count ≡ (step_at (s ∷ ss) count).name = elim count as (λ n. name_place_after s.name ss n ≡ (step_at (s ∷ ss) n).name) [ zero ↦ refl | suc n ↦ refl ] in
    rw (lt-false t s.from (omega (arith, ints, h.0 0 (omega arith)))) (name_place_between s.name ss count passed t e (omega arith) (in-tail s ss count passed h) ∙ same)

pub next-order : (steps : List Step) (n : ℕ) → InOrder steps → suc n < length steps → (step_at steps n).from <ℤ (step_at steps (suc n)).from
next-order steps n order lt = let e : n + 1 ≡ suc n = omega arith in subst (λ k. (step_at steps n).from <ℤ (step_at steps k).from) e (order n (omega arith))

-- where a step has begun, so have those before it
pub all_begun : (steps : List Step) (n : ℕ) (t : ℤ) → InOrder steps → n < length steps → (step_at steps n).from ≤ℤ t → AllBegun steps (n + 1) t
all_begun steps zero t order lt h = below_more (λ k. (step_at steps k).from ≤ℤ t) 0 (λ k below. absurd (omega arith)) h
all_begun steps (suc n) t order lt h =
    below_more (λ k. (step_at steps k).from ≤ℤ t) (suc n)
    (λ k below. all_begun steps n t order (omega arith) (let o = next-order steps n order lt in omega (arith, ints, o, h)) k (omega arith))
    h

pub less-or-not : (a b : ℤ) → (a <ℤ b) ⊎ (b ≤ℤ a)
less-or-not a b = elim (int_lt a b) as (λ v. int_lt a b ≡ v → (a <ℤ b) ⊎ (b ≤ℤ a)) [
  | true ↦ λ e. inl (grind (arith, ints))
  | false ↦ λ e. inr (grind (arith, ints))
] refl

pub offset_after-in : (first : ℤ) (steps : List Step) (count : ℕ) → count ≤ length steps → IsOffset first → AreOffsets steps → IsOffset (offset_after first steps count)
offset_after-in first steps zero within one all = one
offset_after-in first steps (suc n) within one all = all n (omega arith)

-- the steps that have begun at a moment come before those that have not
pub begun_first : (steps : List Step) (t : ℤ) → InOrder steps → IsPartitionedBy (λ step. int_le step.from t) steps
begun_first steps t order i j d le lt h =
    let begun : (step_at steps j).from ≤ℤ t = rw (get_or_default steps j no_step d lt) (grind (arith, ints, h)) in
    rw (get_or_default steps i d no_step (omega arith)) (le-true (step_at steps i).from t (all_begun steps j t order lt begun i (omega arith)))

pub in_of : (steps : List Step) (count : ℕ) (t : ℤ) → IsPartitionPoint (λ step. int_le step.from t ≡ true) (λ step. int_le step.from t ≡ false) steps count → IsIn steps count t
in_of steps count t point = (λ i lt. let b = point.0 i no_step (omega arith) lt in grind (arith, ints, b), λ lt. let b = point.1 count no_step (omega arith) lt in grind (arith, ints, b))
