use Rattle.std.proofs.Common.{arith, sym, ◌∙◌, ◌≡◌, ◌+◌, to_z, of_z, w32}
use Rattle.std.proofs.lemmas.Int.{ints}
use Rattle.calendar_count.proofs.lemmas.Places.{place_view}
use Rattle.datetime_wall.proofs.counts.place_of_count.Goals as goal

pub returns-clause-year : goal.returns-clause-year
returns-clause-year c =
    let y = c.year_after.result in
    let back : to_z w32 (of_z w32 y) ≡ y = omega (arith, ints) in
    let view = place_view c.args.count c.split_years-years.result.0 (c.split_years-years.result.1 + 1) y (omega arith) c.year_after.ensures.value (omega arith) (omega arith) (omega arith) in
    back ∙ sym view.1

pub returns-clause-ordinal : goal.returns-clause-ordinal
returns-clause-ordinal c =
    let view = place_view c.args.count c.split_years-years.result.0 (c.split_years-years.result.1 + 1) c.year_after.result (omega arith) c.year_after.ensures.value (omega arith) (omega arith) (omega arith) in
    sym view.2
