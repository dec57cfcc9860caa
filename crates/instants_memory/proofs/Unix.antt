-- The whole seconds of an instant, and the nanoseconds after them.
use Rattle.std.proofs.Common.{◌≡◌, ◌%◌, ◌<◌, ℤ, pos, ◌+ℤ◌, ◌*ℤ◌, unsigned_abs, arith}
use Rattle.std.specs.Int.{int_div_euclid, int_rem_euclid}
use Rattle.calendar_count.proofs.lemmas.Signed.{signed}
use Rattle.datetime_wall.specs.Wall.{Shown, instant, nanosecond_of, second_nanos}

-- the nanoseconds are those that its clock shows, whatever its offset
pub same_nanoseconds : (m : Shown) → nanosecond_of m.wall % second_nanos ≡ unsigned_abs (int_rem_euclid (instant m) (pos second_nanos))
unfolding nanosecond_of
same_nanoseconds m = omega (arith, signed)

-- both together are the instant
pub both_parts : (i : ℤ) → int_div_euclid i (pos second_nanos) *ℤ pos second_nanos +ℤ pos (unsigned_abs (int_rem_euclid i (pos second_nanos))) ≡ i
both_parts i = omega (arith, signed)

pub few_nanoseconds : (i : ℤ) → unsigned_abs (int_rem_euclid i (pos second_nanos)) < second_nanos
few_nanoseconds i = omega (arith, signed)
