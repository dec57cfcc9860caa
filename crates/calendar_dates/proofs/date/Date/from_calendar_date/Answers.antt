use Rattle.std.proofs.Common.{rules, sym, ◌≡◌}
use Rattle.calendar_count.specs.Calendar.{day_at, ymd, IsDay}
use Rattle.calendar_count.specs.Month.{month_number}
use Rattle.calendar_count.proofs.lemmas.TheDay.{the_day-named, the_day-unnamed}
use Rattle.calendar_dates.proofs.date.Date.from_calendar_date.Goals as goal

pub returns-then-not-has_year-clause-named : goal.returns-then-not-has_year-clause-named
returns-then-not-has_year-clause-named c =
    let absent : ¬ IsDay c.args.year (month_number c.args.month) c.args.day = λ day. search rules in
    sym (the_day-unnamed c.args.year (month_number c.args.month) c.args.day absent)

pub returns-then-not-has_day-clause-named : goal.returns-then-not-has_day-clause-named
returns-then-not-has_day-clause-named c =
    let absent : ¬ IsDay c.args.year (month_number c.args.month) c.args.day = λ day. search rules in
    sym (the_day-unnamed c.args.year (month_number c.args.month) c.args.day absent)

pub returns-clause-named : goal.returns-clause-named
returns-clause-named c =
    let n = c.from_count.result in
    let is : day_at n ≡ ymd c.args.year (month_number c.args.month) c.args.day = search rules in
    sym (the_day-named c.args.year (month_number c.args.month) c.args.day n c.from_count.ensures.bound is)
