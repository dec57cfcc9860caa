use Rattle.std.proofs.Common.{arith, ◌≡◌, neg_ℤ, ◌+ℤ◌, ◌-ℤ◌, ◌*ℤ◌, pos, to_z, of_z, w64}
use mir.Syntax.{w128}
use Rattle.calendar_count.proofs.lemmas.Signed.{signed}
use Rattle.calendar_spans.specs.Duration.{second_nanos}
use Rattle.calendar_spans.proofs.duration.SignedDuration.checked_neg.Goals as goal

whole : (c : goal.After-from_parts) → to_z w128 (of_z w128 (pos 0 -ℤ to_z w128 (of_z w128 c.parts-seconds.result.0))) *ℤ pos second_nanos +ℤ to_z w64 (of_z w64 (pos 0 -ℤ to_z w64 (of_z w64 c.parts-seconds.result.1))) ≡ neg_ℤ c.args.self
whole c = omega (arith, signed)

pub returns-clause-some : goal.returns-clause-some
returns-clause-some c = rw (whole c) at c.from_parts.ensures.some

pub returns-clause-value : goal.returns-clause-value
returns-clause-value c = rw (whole c) at c.from_parts.ensures.value
