-- An instant as the clock at an offset shows it.
use Rattle.std.proofs.Common.{◌≡◌, refl, arith, Some, None, ℤ, pos, ◌+ℤ◌, ◌-ℤ◌, ◌*ℤ◌}
use Rattle.calendar_count.proofs.lemmas.Signed.{signed}
use Rattle.datetime_wall.specs.Wall.{second_nanos, Shown, IsWallClock, instant, wall_at, shown_at}
use Rattle.datetime_wall.proofs.lemmas.WallClocks.{is_wall_clock_yes, is_wall_clock_no}

-- another offset moves the wall clock by the difference of the offsets
pub wall_at-instant : (m : Shown) (offset : ℤ) → wall_at offset (instant m) ≡ m.wall +ℤ (offset -ℤ m.offset) *ℤ pos second_nanos
wall_at-instant m offset = omega (arith, signed)

pub shown_at_some : (m : Shown) (offset moved : ℤ) → moved ≡ m.wall +ℤ (offset -ℤ m.offset) *ℤ pos second_nanos → IsWallClock moved → shown_at offset (instant m) ≡ Some (record { wall = moved; offset = offset })
shown_at_some m offset moved e within =
    let wall : wall_at offset (instant m) ≡ moved = omega (arith, signed) in
    rw (wall, is_wall_clock_yes moved within) refl

pub shown_at_none : (m : Shown) (offset moved : ℤ) → moved ≡ m.wall +ℤ (offset -ℤ m.offset) *ℤ pos second_nanos → ¬ IsWallClock moved → shown_at offset (instant m) ≡ None
shown_at_none m offset moved e without =
    let wall : wall_at offset (instant m) ≡ moved = omega (arith, signed) in
    rw (wall, is_wall_clock_no moved without) refl

-- the clock at its own offset shows what it shows
pub shown_at-instant : (m : Shown) → IsWallClock m.wall → shown_at m.offset (instant m) ≡ Some m
shown_at-instant m within = shown_at_some m m.offset m.wall (omega (arith, signed)) within
