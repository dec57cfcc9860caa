use Rattle.std.proofs.Common.{rules, sym, ◌∙◌, ◌≡◌, to_z, of_z, w32, to_z-of_z, FitsSigned}
use Rattle.calendar_spans.specs.DurationParts.{nanoseconds_back}
use Rattle.calendar_spans.proofs.duration.SignedDuration.subsec_nanoseconds.Goals as goal

pub returns-clause-value : goal.returns-clause-value
returns-clause-value c =
    let n = c.self.inside.nanoseconds in
    let fits : FitsSigned w32 n = search rules in
    let back : to_z w32 (of_z w32 n) ≡ n = to_z-of_z fits in
    back ∙ sym (rw c.self.view_is at (nanoseconds_back c.self.inside.seconds n c.self.invariant))
