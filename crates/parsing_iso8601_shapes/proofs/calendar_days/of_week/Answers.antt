use Rattle.std.proofs.Common.{arith}
use Rattle.parsing_iso8601_shapes.specs.Days.{year_by}
use Rattle.parsing_iso8601_shapes.proofs.DayLemmas.{week_ordinal}
use Rattle.parsing_iso8601_shapes.proofs.calendar_days.of_week.Goals as goal

pub returns-clause-named : goal.returns-clause-named
returns-clause-named c =
    let start = c.first_thursday.ensures.value in
    week_ordinal (year_by c.args.century c.args.last_two) c.args.week _ _ (omega arith) (omega (arith, c.first_thursday.ensures.bound)) (omega arith) (omega arith, omega arith) (rw (← start) (omega arith)) (rw (← start) (omega arith))
