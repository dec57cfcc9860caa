use Rattle.std.proofs.Common.{arith, sym, ◌∙◌, ◌≡◌, to_z, of_z, w32}
use Rattle.std.proofs.lemmas.Int.{ints}
use Rattle.calendar_count.proofs.lemmas.Places.{iso_at}
use Rattle.datetime_wall.proofs.counts.iso_week_of_count.Goals as goal

pub returns-clause-year : goal.returns-clause-year
returns-clause-year c =
    let y = c.year_after.result in
    let n = c.split_years-years.result.0 in
    let back : to_z w32 (of_z w32 y) ≡ y = omega (arith, ints) in
    let e = c.year_after.ensures.value in
    let at = iso_at c.args.count n y e (omega arith) (omega arith) in
    back ∙ sym at.0

pub returns-clause-week : goal.returns-clause-week
returns-clause-week c =
    let y = c.year_after.result in
    let n = c.split_years-years.result.0 in
    let e = c.year_after.ensures.value in
    let at = iso_at c.args.count n y e (omega arith) (omega arith) in
    omega (arith, at.1)
