-- The nanoseconds of an instant after its whole seconds.
use Rattle.std.proofs.Common.{◌≡◌, ◌%◌, pos, unsigned_abs, arith}
use Rattle.std.specs.Int.{int_rem_euclid}
use Rattle.calendar_count.proofs.lemmas.Signed.{signed}
use Rattle.datetime_wall.specs.Wall.{Shown, instant, nanosecond_of, second_nanos}

-- they are those that its clock shows, whatever its offset
pub same_nanoseconds : (m : Shown) → nanosecond_of m.wall % second_nanos ≡ unsigned_abs (int_rem_euclid (instant m) (pos second_nanos))
unfolding nanosecond_of
same_nanoseconds m = omega (arith, signed)
