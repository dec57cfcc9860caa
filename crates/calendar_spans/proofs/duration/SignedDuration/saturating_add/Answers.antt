use Rattle.std.proofs.Common.{arith, pos, ◌+ℤ◌}
use Rattle.std.proofs.lemmas.Int.{ints, by_lt_z}
use Rattle.calendar_spans.proofs.NearestLemmas.{nearest_end}
use Rattle.calendar_spans.proofs.duration.SignedDuration.saturating_add.Goals as goal

pub returns-in_default : goal.returns-in_default
returns-in_default c =
    let none = c.in_default.ensures in
    let back = c.is_negative.ensures.value in
    record {
      value =
          nearest_end (c.args.self +ℤ c.args.other) c.end.result c.is_negative.result c.end.ensures.value
          (λ yes. let less = back.0 yes in omega (arith, ints, less))
          (λ no. by_lt_z c.args.self (pos 0) (λ below. let yes = back.1 below in cc) (λ not. omega (arith, ints)))
          (λ fits. let e = none.some.1 fits in cc);
    }
