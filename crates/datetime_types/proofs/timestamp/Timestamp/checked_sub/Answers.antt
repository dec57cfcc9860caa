use Rattle.std.proofs.Common.{arith, ◌≡◌, ◌+ℤ◌, ◌-ℤ◌, ◌*ℤ◌, neg_ℤ, pos, to_z, of_z, w32}
use Rattle.std.specs.Int.{w128}
use Rattle.calendar_count.proofs.lemmas.Signed.{signed}
use Rattle.datetime_wall.specs.Wall.{second_nanos}
use Rattle.datetime_types.proofs.UnixLemmas.{duration_whole}
use Rattle.datetime_types.proofs.timestamp.Timestamp.checked_sub.Goals as goal

-- what the parts make
whole_is : (c : goal.After-moved) → to_z w128 (of_z w128 (pos 0 -ℤ to_z w128 (of_z w128 c.from-seconds.result))) *ℤ pos second_nanos +ℤ to_z w32 (of_z w32 (pos 0 -ℤ to_z w32 (of_z w32 c.subsec_nanoseconds.result))) ≡ neg_ℤ c.args.duration
whole_is c = omega (arith, signed, duration_whole c.args.duration, c.whole_seconds.ensures.value, c.whole_seconds.ensures.bound, c.subsec_nanoseconds.ensures.value, c.subsec_nanoseconds.ensures.bound, c.from-seconds.ensures)

pub returns-clause-value : goal.returns-clause-value
returns-clause-value c = let value = rw (whole_is c) at c.moved.ensures.value in value

pub returns-clause-some : goal.returns-clause-some
returns-clause-some c = let some = rw (whole_is c) at c.moved.ensures.some in some
