use Rattle.std.proofs.Common.{arith, ◌≡◌, ◌+ℤ◌, ◌*ℤ◌, pos, to_z, of_z}
use Rattle.std.specs.Int.{w128}
use Rattle.calendar_count.proofs.lemmas.Signed.{signed}
use Rattle.datetime_wall.specs.Wall.{second_nanos}
use Rattle.datetime_types.proofs.timestamp.Timestamp.moved.Goals as goal
use Rattle.datetime_types.proofs.timestamp.Timestamp.moved.Goals.{After-of_parts}

-- the whole that the parts make
whole_is : (c : After-of_parts) → to_z w128 (of_z w128 (to_z w128 (of_z w128 c.from-2.result) +ℤ to_z w128 (of_z w128 c.args.seconds))) *ℤ pos second_nanos +ℤ pos c.carried-carry.result.1 ≡ c.args.self +ℤ (c.args.seconds *ℤ pos second_nanos +ℤ c.args.nanoseconds)
whole_is c = omega (arith, signed, c.parts-own_seconds.ensures.whole, c.parts-own_seconds.ensures.bound, c.carried-carry.ensures.whole, c.carried-carry.ensures.carry, c.requires.seconds, c.requires.nanoseconds, c.from.ensures, c.from-2.ensures)

pub returns-clause-value : goal.returns-clause-value
returns-clause-value c = let value = rw (whole_is c) at c.of_parts.ensures.value in value

pub returns-clause-some : goal.returns-clause-some
returns-clause-some c = let some = rw (whole_is c) at c.of_parts.ensures.some in some
