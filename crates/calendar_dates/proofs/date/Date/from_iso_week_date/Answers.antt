use Rattle.std.proofs.Common.{arith, rules, ◌≡◌, to_z, of_z, w32, to_z-of_z}
use Rattle.calendar_count.specs.Range.{IsYear}
use Rattle.calendar_count.specs.Calendar.{days_in_year}
use Rattle.calendar_count.specs.Closed.{days_before_year}
use Rattle.calendar_count.specs.Place.{iso_count}
use Rattle.calendar_count.specs.Weekday.{days_from_monday}
use Rattle.calendar_count.proofs.lemmas.Days.{iso_year_bound}
use Rattle.calendar_count.proofs.lemmas.Places.{iso_count-is, iso_count-at}
use Rattle.calendar_dates.proofs.date.Date.from_iso_week_date.Goals as goal
use Rattle.calendar_dates.proofs.date.Date.from_iso_week_date.Goals.{then-week-eq0-via-then-week-eq0, then-week-eq0-via-else-week-eq0+then-thursday-end}

pub returns-then-not-has_year-clause-none : goal.returns-then-not-has_year-clause-none
returns-then-not-has_year-clause-none c n h k =
    let year : IsYear c.args.year = rw k.0 at (iso_year_bound n h) in
    search rules

pub returns-then-week-eq0-clause-none : goal.returns-then-week-eq0-clause-none
returns-then-week-eq0-clause-none c n h k =
    let y = c.args.year in
    let back : to_z w32 (of_z w32 y) ≡ y = to_z-of_z c.ranges.year in
    let e = rw back at c.years_since.ensures.value in
    let long = rw back at c.days_in_year.ensures in
    let is = iso_count-is n c.years_since.result c.args.week (days_from_monday c.args.weekday) y e k.0 k.1 k.2 in
    elim c.then-week-eq0.branch [
      | then-week-eq0-via-then-week-eq0 w ↦ omega (arith, is.1, w.if-week-eq0.true)
      | then-week-eq0-via-else-week-eq0+then-thursday-end w ↦ omega (arith, is.1, is.2, w.if-thursday-end.true)
    ]

pub returns-then-count-gt-LAST_COUNT-clause-none : goal.returns-then-count-gt-LAST_COUNT-clause-none
returns-then-count-gt-LAST_COUNT-clause-none c n h k =
    let back : to_z w32 (of_z w32 c.args.year) ≡ c.args.year = to_z-of_z c.ranges.year in
    let e = rw back at c.years_since.ensures.value in
    let is = iso_count-is n c.years_since.result c.args.week (days_from_monday c.args.weekday) c.args.year e k.0 k.1 k.2 in
    omega (arith, is.0, is.1, c.if-count-gt-LAST_COUNT.true)

pub returns-clause-value : goal.returns-clause-value
returns-clause-value c =
    let y = c.args.year in
    let n = c.years_since.result in
    let back : to_z w32 (of_z w32 y) ≡ y = to_z-of_z c.ranges.year in
    let e = rw back at c.years_since.ensures.value in
    let long : c.days_in_year.result ≡ days_in_year y = rw back at c.days_in_year.ensures in
    let at = iso_count-at n c.args.week (days_from_monday c.args.weekday) y e (omega arith) (omega arith) (omega arith) in
    let is : c.from_count.result ≡ iso_count (days_before_year n) c.args.week (days_from_monday c.args.weekday) = omega arith in
    rw is at
