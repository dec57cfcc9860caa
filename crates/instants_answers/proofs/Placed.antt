-- What is shown at an offset has that offset and is of the same instant.
use Rattle.std.proofs.Common.{◌≡◌, true, false, None, Some, refl, sym, ap, ◌∙◌, arith, ℤ, pos, ◌-ℤ◌, ◌*ℤ◌}
use Rattle.std.specs.Prelude.{if◌then◌else◌, Bool}
use Rattle.calendar_count.proofs.lemmas.Signed.{signed}
use Rattle.datetime_wall.specs.Wall.{Shown, second_nanos, instant, wall_at, shown_at, is_wall_clock, IsWallClock}
use Rattle.datetime_wall.proofs.lemmas.WallClocks.{is_wall_clock_is}

shown : ℤ → ℤ → Shown
shown target i = record { wall = wall_at target i; offset = target }

back : (target i : ℤ) → wall_at target i -ℤ target *ℤ pos second_nanos ≡ i
back target i = omega (arith, signed)

chosen : (b : Bool) (m a : Shown) → (if b then Some m else None) ≡ Some a → (b ≡ true) × (m ≡ a)
chosen true m a e = (refl, cc)
chosen false m a e = absurd cc

-- its offset, its instant, and that the calendar has its day
pub record IsShownOf (target i : ℤ) (a : Shown) : Type 0 where
  pub offset : a.offset ≡ target
  pub same : instant a ≡ i
  pub within : IsWallClock a.wall

pub shown_at-is : (target i : ℤ) (a : Shown) → shown_at target i ≡ Some a → IsShownOf target i a
unfolding shown
shown_at-is target i a e =
    let is = chosen (is_wall_clock (wall_at target i)) (shown target i) a e in
    record {
      offset = sym (ap (λ m. m.offset) is.1);
      same = sym (ap (λ m. instant m) is.1) ∙ back target i;
      within = rw (ap (λ m. m.wall) is.1) at (is_wall_clock_is (wall_at target i) is.0);
    }
