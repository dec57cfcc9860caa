use Rattle.std.proofs.Common.{to_z-of_z}
use Rattle.calendar_spans.proofs.NearestLemmas.{product_end}
use Rattle.calendar_spans.proofs.duration.SignedDuration.saturating_mul.Goals as goal

pub returns-in_default : goal.returns-in_default
returns-in_default c =
    let some = rw (to_z-of_z c.ranges.factor) at c.in_default.ensures.some in
    let end = rw (to_z-of_z c.ranges.factor) at c.end.ensures.value in
    record { value = product_end c.args.self c.args.factor c.end.result c.is_negative.result c.is_negative.ensures.value end (λ fits. let e = some.1 fits in cc) }
