-- Wall clocks moved by the duration nearest to a length.
use Rattle.std.proofs.Common.{arith, ◌≡◌, refl, ◌⊎◌, inl, inr, ℕ, ℤ, pos, ◌+ℤ◌, ◌-ℤ◌, ◌<ℤ◌, Option, Some, None}
use Rattle.std.specs.Prelude.{IsSome, IfSome, ◌↔◌}
use Rattle.std.proofs.lemmas.Int.{ints, by_lt_z}
use Rattle.calendar_count.proofs.lemmas.Signed.{signed}
use Rattle.calendar_spans.specs.Duration.{greatest_duration, nearest_duration}
use Rattle.datetime_wall.specs.Wall.{IsWallClock}

-- a length forward is a duration, or longer than all
nearest_forward : (n : ℕ) → (nearest_duration (pos n) ≡ pos n) ⊎ ((nearest_duration (pos n) ≡ greatest_duration) × (greatest_duration <ℤ pos n))
nearest_forward n = by_lt_z greatest_duration (pos n) (λ l. inr (grind (arith, ints), l)) (λ l. inl (grind (arith, ints)))

-- so it leads to where the length leads, or both lead out of the calendar
nearest_later : (wall : ℤ) (n : ℕ) → IsWallClock wall → (nearest_duration (pos n) ≡ pos n) ⊎ ((IsWallClock (wall +ℤ nearest_duration (pos n)) → ⊥) × (IsWallClock (wall +ℤ pos n) → ⊥))
nearest_later wall n h = elim (nearest_forward n) [
  | inl e ↦ inl e
  | inr p ↦ inr (λ k. (let far = rw p.0 at k in omega (arith, signed, h, far)), λ k. omega (arith, signed, h, k, p.1))
]

nearest_earlier : (wall : ℤ) (n : ℕ) → IsWallClock wall → (nearest_duration (pos n) ≡ pos n) ⊎ ((IsWallClock (wall -ℤ nearest_duration (pos n)) → ⊥) × (IsWallClock (wall -ℤ pos n) → ⊥))
nearest_earlier wall n h = elim (nearest_forward n) [
  | inl e ↦ inl e
  | inr p ↦ inr (λ k. (let far = rw p.0 at k in omega (arith, signed, h, far)), λ k. omega (arith, signed, h, k, p.1))
]

if_none : {A : Type 0} (o : Option A) (P : A → Type 0) → (IsSome o → ⊥) → IfSome o P
if_none (Some x) P h = absurd (h refl)
if_none None P h = tt

-- a wall clock moved by the nearest duration is moved by the length
pub later_some : (P : Type 0) (wall : ℤ) (n : ℕ) → IsWallClock wall → (P ↔ IsWallClock (wall +ℤ nearest_duration (pos n))) → (P ↔ IsWallClock (wall +ℤ pos n))
later_some P wall n h some = elim (nearest_later wall n h) [
  | inl e ↦ rw e at some
  | inr p ↦ (λ yes. absurd (p.0 (some.0 yes)), λ k. absurd (p.1 k))
]

pub later_value : (o : Option ℤ) (wall : ℤ) (n : ℕ) → IsWallClock wall → (IsSome o ↔ IsWallClock (wall +ℤ nearest_duration (pos n))) → IfSome o (λ m. m ≡ wall +ℤ nearest_duration (pos n)) → IfSome o (λ m. m ≡ wall +ℤ pos n)
later_value o wall n h some value = elim (nearest_later wall n h) [
  | inl e ↦ rw e at value
  | inr p ↦ if_none o _ (λ yes. p.0 (some.0 yes))
]

pub earlier_some : (P : Type 0) (wall : ℤ) (n : ℕ) → IsWallClock wall → (P ↔ IsWallClock (wall -ℤ nearest_duration (pos n))) → (P ↔ IsWallClock (wall -ℤ pos n))
earlier_some P wall n h some = elim (nearest_earlier wall n h) [
  | inl e ↦ rw e at some
  | inr p ↦ (λ yes. absurd (p.0 (some.0 yes)), λ k. absurd (p.1 k))
]

pub earlier_value : (o : Option ℤ) (wall : ℤ) (n : ℕ) → IsWallClock wall → (IsSome o ↔ IsWallClock (wall -ℤ nearest_duration (pos n))) → IfSome o (λ m. m ≡ wall -ℤ nearest_duration (pos n)) → IfSome o (λ m. m ≡ wall -ℤ pos n)
earlier_value o wall n h some value = elim (nearest_earlier wall n h) [
  | inl e ↦ rw e at value
  | inr p ↦ if_none o _ (λ yes. p.0 (some.0 yes))
]
