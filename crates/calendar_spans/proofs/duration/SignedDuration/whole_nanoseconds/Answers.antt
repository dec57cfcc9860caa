use Rattle.std.proofs.Common.{arith}
use Rattle.calendar_count.proofs.lemmas.Signed.{signed}
use Rattle.calendar_spans.proofs.duration.SignedDuration.whole_nanoseconds.Goals as goal

pub returns-clause-value : goal.returns-clause-value
returns-clause-value c = omega (arith, signed, c.parts-seconds.ensures.parts.low)

pub returns-clause-bound : goal.returns-clause-bound
returns-clause-bound c = (omega (arith, signed), omega (arith, signed))
