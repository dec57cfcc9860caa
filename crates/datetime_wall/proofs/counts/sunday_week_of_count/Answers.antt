use Rattle.std.proofs.Common.{arith, ◌≡◌, ℤ, pos, ◌-ℤ◌, ◌+◌, ◌+ℤ◌}
use Rattle.calendar_count.specs.Range.{greatest_year}
use Rattle.calendar_count.specs.Place.{IsPlace}
use Rattle.calendar_count.proofs.lemmas.Signed.{signed}
use Rattle.calendar_count.proofs.lemmas.Places.{place_split, place_sunday_week}
use Rattle.datetime_wall.proofs.counts.sunday_week_of_count.Goals as goal

pub returns-clause-value : goal.returns-clause-value
returns-clause-value c =
    let n = c.split_years-days.result.0 in
    let o = c.split_years-days.result.1 + 1 in
    let y : ℤ = pos n -ℤ pos greatest_year in
    let since : y +ℤ pos greatest_year ≡ pos n = omega (arith, signed) in
    let split = place_split c.args.count n o y (omega arith) since (omega arith) (omega arith) (omega arith) in
    let place : IsPlace y o = (split.0, (omega arith, split.1)) in
    omega (arith, place_sunday_week y o c.args.count place split.2)
