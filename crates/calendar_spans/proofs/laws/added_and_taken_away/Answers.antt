use Rattle.std.proofs.Common.{arith, ◌≡◌, ◌-ℤ◌}
use Rattle.std.proofs.lemmas.Int.{ints}
use Rattle.calendar_spans.proofs.laws.added_and_taken_away.Goals as goal

pub returns-clause-value : goal.returns-clause-value
returns-clause-value c =
    let added = c.in-Some.ensures in
    let back : c.in-Some.sum -ℤ c.args.other ≡ c.args.duration = omega (arith, ints, added.value) in
    rw back at c.checked_sub.ensures.value
