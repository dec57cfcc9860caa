use Rattle.std.proofs.Common.{arith, ◌≡◌, ◌*◌, ◌<◌, ◌+ℤ◌, ◌*ℤ◌, pos, unsigned_abs, to_z, of_z, w64}
use Rattle.std.specs.Int.{w128}
use Rattle.calendar_count.proofs.lemmas.Signed.{signed}
use Rattle.calendar_spans.specs.Duration.{micro_nanos}
use Rattle.datetime_wall.specs.Wall.{second_nanos}
use Rattle.datetime_types.proofs.UnixLemmas.{where_within}
use Rattle.datetime_types.proofs.timestamp.Timestamp.from_microseconds.Goals as goal

-- what the parts make
whole_is : (c : goal.After-new) → to_z w64 (of_z w64 c.in-Ok.seconds) *ℤ pos second_nanos +ℤ pos (unsigned_abs (to_z w128 (of_z w128 c.rem_euclid.result)) * 1000) ≡ c.args.microseconds *ℤ pos micro_nanos
whole_is c = omega (arith, signed, c.in-Ok.ensures, c.rem_euclid.ensures.value, c.rem_euclid.ensures.lower_bound, c.rem_euclid.ensures.upper_bound, c.div_euclid.ensures)

nanoseconds_below : (c : goal.After-new) → unsigned_abs (to_z w128 (of_z w128 c.rem_euclid.result)) * 1000 < second_nanos
nanoseconds_below c = omega (arith, signed, c.rem_euclid.ensures.lower_bound, c.rem_euclid.ensures.upper_bound)

pub returns-clause-value : goal.returns-clause-value
returns-clause-value c = let value = rw (whole_is c) at c.new.ensures.value in value

pub returns-clause-succeeds : goal.returns-clause-succeeds
returns-clause-succeeds c = where_within _ (to_z w64 (of_z w64 c.in-Ok.seconds)) (unsigned_abs (to_z w128 (of_z w128 c.rem_euclid.result)) * 1000) _ c.new.ensures.succeeds (whole_is c) (nanoseconds_below c)
