use Rattle.std.proofs.Common.{rules, sym, ◌∙◌, ◌≡◌, to_z, of_z, w64, to_z-of_z, FitsSigned}
use Rattle.calendar_spans.specs.DurationParts.{seconds_back}
use Rattle.calendar_spans.proofs.duration.SignedDuration.whole_seconds.Goals as goal

pub returns-clause-value : goal.returns-clause-value
returns-clause-value c =
    let s = c.self.inside.seconds in
    let fits : FitsSigned w64 s = search rules in
    let back : to_z w64 (of_z w64 s) ≡ s = to_z-of_z fits in
    back ∙ sym (rw c.self.view_is at (seconds_back s c.self.inside.nanoseconds c.self.invariant))
