use Rattle.std.proofs.Common.{◌≡◌, true, arith, to_z, of_z, w32}
use Rattle.std.proofs.lemmas.Bool.Decides.{nat_tests}
use Rattle.std.proofs.lemmas.Int.{ints}
use Rattle.calendar_count.specs.Calendar.{is_year}
use Rattle.calendar_dates.proofs.date.Date.replace_month.Goals as goal

same : (c : goal.After-from_calendar_date) → to_z w32 (of_z w32 c.to_calendar_date-year.result.0) ≡ c.to_calendar_date-year.result.0
same c = omega (arith, ints, c.to_calendar_date-year.ensures.valid.0)

pub returns-clause-succeeds : goal.returns-clause-succeeds
returns-clause-succeeds c = rw c.to_calendar_date-year.ensures.value (rw (same c) at c.from_calendar_date.ensures.succeeds)

pub returns-clause-value : goal.returns-clause-value
returns-clause-value c = rw c.to_calendar_date-year.ensures.value (rw (same c) at c.from_calendar_date.ensures.value)

pub returns-clause-err : goal.returns-clause-err
returns-clause-err c =
    let there : is_year c.to_calendar_date-year.result.0 ≡ true = grind (arith, nat_tests, c.to_calendar_date-year.ensures.valid.0) in
    rw (same c, there) at c.from_calendar_date.ensures.err
