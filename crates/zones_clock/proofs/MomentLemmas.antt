-- The list of the moments at which a clock shows a reading has each of them, in order.
use Rattle.std.proofs.Common.{◌≡◌, ◌⊎◌, inl, inr, refl, arith, ℤ, ◌-ℤ◌, ◌<ℤ◌, ◌≤ℤ◌, int_le, int_lt, List, [], ◌∷◌, ◌++◌}
use Rattle.std.specs.List.{filter}
use Rattle.std.proofs.lemmas.Int.{ints}
use Rattle.zones_clock.specs.declared.zone.Step.{Step}
use Rattle.zones_clock.specs.declared.zone.Moments.TheVariants.{Skipped, Several}
use Rattle.zones_clock.specs.Steps.{offset_at}
use Rattle.zones_clock.specs.Clock.{AreTheMoments, Shows}
use Rattle.zones_clock.specs.AllMoments.{all_moments, moments_of, with_moments, ListsInOrder}
use Rattle.zones_clock.proofs.ClockLemmas.{less-or-not, le-true, le-false, lt-true, lt-false}

-- what is true of the same moments is listed by the same list
same-listed : (P Q : ℤ → Type 0) (ms : List ℤ) → ((t : ℤ) → P t → Q t) → ((t : ℤ) → Q t → P t) → ListsInOrder P ms → ListsInOrder Q ms
same-listed P Q [] to back h = λ t q. h t (back t q)
same-listed P Q (m ∷ ms) to back h = (to m h.0, λ t q. h.1 t (back t q), same-listed (λ t. P t × (m <ℤ t)) (λ t. Q t × (m <ℤ t)) ms (λ t x. (to t x.0, x.1)) (λ t x. (back t x.0, x.1)) h.2)

-- of the moments listed, those from one on
from-listed : (P : ℤ → Type 0) (from : ℤ) (ms : List ℤ) → ListsInOrder P ms → ListsInOrder (λ t. P t × (from ≤ℤ t)) (filter (λ m. int_le from m) ms)
from-listed P from [] h = λ t p. h t p.0
from-listed P from (m ∷ ms) h =
    let After : ℤ → Type 0 = λ t. (P t × (m <ℤ t)) × (from ≤ℤ t) in
    let kept : List ℤ = filter (λ m. int_le from m) ms in
    let later : ListsInOrder After kept = from-listed (λ t. P t × (m <ℤ t)) from ms h.2 in
    elim (less-or-not m from) [
      | inl below ↦ rw (le-false from m below) (same-listed After (λ t. P t × (from ≤ℤ t)) kept (λ t x. (x.0.0, x.1)) (λ t x. ((x.0, omega (arith, ints, below, x.1)), x.1)) later)
      | inr past ↦ rw (le-true from m past) ((h.0, past), λ t x. h.1 t x.0, same-listed After (λ t. (P t × (from ≤ℤ t)) × (m <ℤ t)) kept (λ t x. ((x.0.0, x.1), x.0.1)) (λ t x. ((x.0.0, x.1), x.0.1)) later)
    ]

-- a moment lies before the first step, and the first offset gives it, or it lies from there on, and the clock after the step shows the reading
abbrev Parts : ℤ → Step → List Step → ℤ → ℤ → Type 0
Parts first s ss reading t = ((t <ℤ s.from) × (t ≡ reading -ℤ first)) ⊎ (Shows s.offset ss reading t × (s.from ≤ℤ t))

of-parts : (first : ℤ) (s : Step) (ss : List Step) (reading t : ℤ) → Parts first s ss reading t → Shows first (s ∷ ss) reading t
unfolding offset_at
of-parts first s ss reading t (inl x) = record { shown = rw (lt-true t s.from x.0) (omega (arith, ints, x.1)) }
of-parts first s ss reading t (inr x) = record { shown = rw (lt-false t s.from x.1) x.0.shown }

parts-of : (first : ℤ) (s : Step) (ss : List Step) (reading t : ℤ) → Shows first (s ∷ ss) reading t → Parts first s ss reading t
unfolding offset_at
parts-of first s ss reading t h = elim (less-or-not t s.from) [
  | inl below ↦ let e = rw (lt-true t s.from below) at h.shown in inl (below, omega (arith, ints, e))
  | inr past ↦ inr (record { shown = rw (lt-false t s.from past) at h.shown }, past)
]

-- the list has each moment at which the clock shows the reading, in order
pub moments_listed : (first : ℤ) (steps : List Step) (reading : ℤ) → ListsInOrder (Shows first steps reading) (all_moments first steps reading)
unfolding all_moments offset_at
moments_listed first [] reading = (record { shown = omega (arith, ints) }, λ t s. omega (arith, ints, s.shown), λ t x. omega (arith, ints, x.0.shown, x.1))
moments_listed first (s ∷ ss) reading =
    let m : ℤ = reading -ℤ first in
    let Later : ℤ → Type 0 = λ t. Shows s.offset ss reading t × (s.from ≤ℤ t) in
    let rest : List ℤ = filter (λ t. int_le s.from t) (all_moments s.offset ss reading) in
    let later : ListsInOrder Later rest = from-listed (Shows s.offset ss reading) s.from (all_moments s.offset ss reading) (moments_listed s.offset ss reading) in
    same-listed (Parts first s ss reading) (Shows first (s ∷ ss) reading) (filter (λ t. int_lt t s.from) (m ∷ []) ++ rest) (of-parts first s ss reading) (parts-of first s ss reading) (elim (less-or-not m s.from) [
      | inl below ↦ rw (lt-true m s.from below) (
        inl (below, refl),
        λ t x. elim x [ inl y ↦ omega (arith, ints, y.1) | inr y ↦ omega (arith, ints, y.1) ],
        same-listed Later (λ t. Parts first s ss reading t × (m <ℤ t)) rest (λ t x. (inr x, omega (arith, ints, below, x.1))) (λ t x. elim (x.0) [ inl y ↦ absurd (omega (arith, ints, y.1, x.1)) | inr y ↦ y ]) later,
      )
      | inr past ↦ rw (lt-false m s.from past) (same-listed Later (Parts first s ss reading) rest (λ t x. inr x) (λ t x. elim x [ inl y ↦ absurd (omega (arith, ints, y.0, y.1)) | inr y ↦ y ]) later)
    ])

several : (m n o : ℤ) (more : List ℤ) → with_moments (Several m n o) more ≡ Several m n o
several m n o [] = refl
several m n o (p ∷ more) = several m n o more

-- what a list in order gives is the answer
answer-of : (first : ℤ) (steps : List Step) (reading : ℤ) (ms : List ℤ) → ListsInOrder (Shows first steps reading) ms → AreTheMoments first steps reading (with_moments Skipped ms)
answer-of first steps reading [] h = h
answer-of first steps reading (m ∷ []) h = (h.0, λ t s. elim (less-or-not m t) [ inl after ↦ absurd (h.2 t (s, after)) | inr early ↦ omega (arith, ints, h.1 t s) ])
answer-of first steps reading (m ∷ n ∷ []) h = (
  (h.0, h.2.0.0, h.2.0.1),
  λ t s. elim (less-or-not m t) [
    | inl after ↦ inr (elim (less-or-not n t) [ inl last ↦ absurd (h.2.2 t ((s, after), last)) | inr early ↦ omega (arith, ints, h.2.1 t (s, after)) ])
    | inr early ↦ inl (omega (arith, ints, h.1 t s))
  ],
)
answer-of first steps reading (m ∷ n ∷ o ∷ more) h = rw (several m n o more) (h.0, h.2.0.0, h.2.2.0.0.0, h.2.0.1, h.2.2.0.1)

pub answer_is : (first : ℤ) (steps : List Step) (reading : ℤ) → AreTheMoments first steps reading (moments_of first steps reading)
unfolding moments_of
answer_is first steps reading = answer-of first steps reading _ (moments_listed first steps reading)
