use Rattle.std.proofs.Common.{◌≡◌, pos, w32, to_z, of_z, arith}
use Rattle.std.proofs.lemmas.Int.{ints}
use Rattle.calendar_count.specs.Calendar.{day_at, ymd}
use Rattle.instants_found.proofs.ZonedLemmas.{reading_is}
use Rattle.instants_found.proofs.zoned.first_reading.Goals as goal

pub returns-clause-value : goal.returns-clause-value
returns-clause-value c = λ f small same_year same_month same_day.
    let own = c.args.fields.now in
    let year : to_z w32 (of_z w32 c.from-year.result) ≡ pos own.year = omega (arith, ints) in
    let day : day_at c.count_of_day-day.result ≡ ymd (pos own.year) own.month own.day = rw (← year) c.count_of_day-day.ensures.value in
    let is = reading_is f c.count_of_day-day.result c.count_of_day-day.ensures.bound (rw (same_year, same_month, same_day) day) small in
    omega (arith, ints, is, c.count_of_day-day.ensures.bound)
