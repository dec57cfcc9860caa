use Rattle.std.proofs.Common.{arith, pos}
use Rattle.calendar_count.specs.Calendar.{days_in_year}
use Rattle.parsing_iso8601_shapes.specs.Days.{year_by}
use Rattle.parsing_iso8601_shapes.proofs.DayLemmas.{split_of, length_of, ordinal_split, looked_up}
use Rattle.parsing_iso8601_shapes.proofs.calendar_days.of_ordinal.Goals as goal

pub overflow_sub-day : goal.overflow_sub-day
overflow_sub-day c =
    let year = year_by c.args.century c.args.last_two in
    let found = looked_up (days_in_year (pos year)) c.args.ordinal c.months_at-months.result c.from.result c.next_if-month.result c.from-2.result c.months_at-months.ensures.row c.from.ensures c.next_if-month.ensures c.from-2.ensures in
    let s = split_of (days_in_year (pos year)) c.args.ordinal (length_of year) c.requires.ordinal in
    omega (arith, found.0, s.before)

pub overflow_cast-result-2 : goal.overflow_cast-result-2
overflow_cast-result-2 c =
    let year = year_by c.args.century c.args.last_two in
    let found = looked_up (days_in_year (pos year)) c.args.ordinal c.months_at-months.result c.from.result c.next_if-month.result c.from-2.result c.months_at-months.ensures.row c.from.ensures c.next_if-month.ensures c.from-2.ensures in
    let s = split_of (days_in_year (pos year)) c.args.ordinal (length_of year) c.requires.ordinal in
    omega (arith, found.0, s.before, s.day)

pub returns : goal.returns
returns c =
    let year = year_by c.args.century c.args.last_two in
    let found = looked_up (days_in_year (pos year)) c.args.ordinal c.months_at-months.result c.from.result c.next_if-month.result c.from-2.result c.months_at-months.ensures.row c.from.ensures c.next_if-month.ensures c.from-2.ensures in
    rw (found.0, found.1) (ordinal_split year c.args.ordinal (omega (arith, c.requires.century, c.requires.last_two)) c.requires.ordinal)
