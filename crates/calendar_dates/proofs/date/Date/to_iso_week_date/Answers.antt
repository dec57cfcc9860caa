use Rattle.std.proofs.Common.{arith, sym, ◌≡◌, to_z, of_z, w32}
use Rattle.std.proofs.lemmas.Int.{ints}
use Rattle.calendar_count.proofs.lemmas.Places.{iso_at}
use Rattle.calendar_dates.proofs.date.Date.to_iso_week_date.Goals as goal

pub returns-clause-value : goal.returns-clause-value
returns-clause-value c =
    let y = c.year_after.result in
    let n = c.thursday-years.result.0 in
    let back : to_z w32 (of_z w32 y) ≡ y = omega (arith, ints) in
    let e = c.year_after.ensures.value in
    let at = iso_at c.args.self n y e (omega arith) (omega arith) in
    rw back (at.0, omega (arith, at.1), sym c.weekday.ensures)
