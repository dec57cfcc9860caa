use Rattle.std.proofs.Common.{arith, ◌≡◌, ◌+ℤ◌, ◌*ℤ◌, pos, int_div}
use Rattle.calendar_count.proofs.lemmas.Signed.{signed}
use Rattle.calendar_spans.specs.Duration.{micro_nanos}
use Rattle.calendar_spans.proofs.UnitLemmas.{whole_micros}
use Rattle.calendar_spans.proofs.duration.SignedDuration.whole_microseconds.Goals as goal

whole : (c : goal.After-from) → c.parts-seconds.result.0 *ℤ pos 1_000_000 +ℤ int_div c.parts-seconds.result.1 (pos micro_nanos) ≡ int_div c.args.self (pos micro_nanos)
whole c = rw c.parts-seconds.ensures.whole (whole_micros c.parts-seconds.result.0 c.parts-seconds.result.1 c.parts-seconds.ensures.parts)

pub returns-clause-value : goal.returns-clause-value
returns-clause-value c = omega (arith, signed, whole c)

pub returns-clause-bound : goal.returns-clause-bound
returns-clause-bound c = let value = returns-clause-value c in omega (arith, signed, value)
