use Rattle.std.proofs.Common.{arith, ◌≡◌, ◌+ℤ◌, ◌-ℤ◌, ◌+◌, ◌-◌, pos, to_z, of_z, w32, ℤ}
use Rattle.calendar_count.specs.Range.{greatest_year}
use Rattle.calendar_count.proofs.lemmas.Signed.{signed}
use Rattle.calendar_count.proofs.lemmas.Days.{day_valid}
use Rattle.calendar_count.proofs.lemmas.Places.{march_day, january_day}
use Rattle.datetime_wall.proofs.counts.day_of_count.Goals as goal

pub returns-then-month-le12-clause-value : goal.returns-then-month-le12-clause-value
returns-then-month-le12-clause-value c =
    let n = c.split_years-years.result.0 in
    let m = c.month_from_march-month.result in
    let e = c.month_from_march-month.ensures in
    let y : ℤ = to_z w32 (of_z w32 (to_z w32 n -ℤ pos (greatest_year + 1))) in
    let since : y +ℤ pos greatest_year ≡ pos (n - 1) = omega (arith, signed) in
    let next : n - 1 + 1 ≡ n = omega arith in
    let is = c.split_years-years.ensures.value in
    march_day c.args.count (n - 1) c.split_years-years.result.1 m.0 m.1 y since (rw next is) e.value e.within (omega arith) (omega arith)

pub returns-then-month-le12-clause-valid : goal.returns-then-month-le12-clause-valid
returns-then-month-le12-clause-valid c = rw (returns-then-month-le12-clause-value c) at (day_valid c.args.count c.requires)

pub returns-else-month-le12-clause-value : goal.returns-else-month-le12-clause-value
returns-else-month-le12-clause-value c =
    let n = c.split_years-years.result.0 in
    let m = c.month_from_march-month.result in
    let e = c.month_from_march-month.ensures in
    let y : ℤ = to_z w32 (of_z w32 (to_z w32 n -ℤ pos greatest_year)) in
    let since : y +ℤ pos greatest_year ≡ pos n = omega (arith, signed) in
    january_day c.args.count n c.split_years-years.result.1 m.0 m.1 y since c.split_years-years.ensures.value c.split_years-years.ensures.within e.value e.within (omega arith) (omega arith)

pub returns-else-month-le12-clause-valid : goal.returns-else-month-le12-clause-valid
returns-else-month-le12-clause-valid c = rw (returns-else-month-le12-clause-value c) at (day_valid c.args.count c.requires)
