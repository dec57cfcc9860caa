use Rattle.std.proofs.Common.{rules, ◌≡◌, sym, ◌+ℤ◌, ◌*ℤ◌, pos, int_div, to_z, of_z, w64, to_z-of_z, FitsSigned}
use mir.Syntax.{w128}
use Rattle.calendar_spans.specs.Duration.{second_nanos}
use Rattle.calendar_spans.proofs.ProductLemmas.{cut_parts}
use Rattle.calendar_spans.proofs.duration.SignedDuration.over.Goals as goal

whole : (c : goal.After-from_parts) → to_z w128 (of_z w128 c.cut_seconds-quotient.result.0) *ℤ pos second_nanos +ℤ to_z w64 (of_z w64 c.cut_nanoseconds.result) ≡ int_div c.args.self c.args.divisor
whole c =
    let d = c.args.divisor in
    let parts = c.parts-seconds in
    let cut = c.cut_seconds-quotient in
    let s_fits : FitsSigned w128 parts.result.0 = search rules in
    let n_fits : FitsSigned w64 parts.result.1 = search rules in
    let q_fits : FitsSigned w128 cut.result.0 = search rules in
    let left_fits : FitsSigned w64 cut.result.1 = search rules in
    let part_fits : FitsSigned w64 c.cut_nanoseconds.result = search rules in
    let quotient = rw (to_z-of_z s_fits, to_z-of_z c.ranges.divisor) at cut.ensures.quotient in
    let left = rw (to_z-of_z s_fits, to_z-of_z c.ranges.divisor) at cut.ensures.left in
    let part = rw (to_z-of_z left_fits, to_z-of_z n_fits, to_z-of_z c.ranges.divisor, left) at c.cut_nanoseconds.ensures.value in
    rw (to_z-of_z q_fits, to_z-of_z part_fits, quotient, part) (sym (rw (← parts.ensures.whole) at (cut_parts parts.result.0 parts.result.1 d parts.ensures.parts c.requires.nonzero)))

pub returns-clause-some : goal.returns-clause-some
returns-clause-some c = rw (whole c) at c.from_parts.ensures.some

pub returns-clause-value : goal.returns-clause-value
returns-clause-value c = rw (whole c) at c.from_parts.ensures.value
