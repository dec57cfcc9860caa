use Rattle.std.proofs.Common.{arith, rules, sym, ◌≡◌, to_z, of_z, w32, to_z-of_z}
use Rattle.calendar_count.specs.Range.{IsYear}
use Rattle.calendar_count.specs.Calendar.{days_in_year}
use Rattle.parsing_values.proofs.NamedDayLemmas.{week_refused, week_unnamed, week_named}
use Rattle.parsing_values.proofs.named_day.week_date.Goals as goal
use Rattle.parsing_values.proofs.named_day.week_date.Goals.{then-later-start-via-then-later-start, then-later-start-via-else-later-start+then-later-end}

pub returns-then-not-has_year : goal.returns-then-not-has_year
returns-then-not-has_year c =
    let absent : ¬ IsYear c.args.year = search rules in
    rw c.unconditional.ensures (sym (week_refused c.args.begin c.args.week c.args.weekday c.args.year absent))

pub returns-then-later-start : goal.returns-then-later-start
returns-then-later-start c =
    let y = c.args.year in
    let back : to_z w32 (of_z w32 y) ≡ y = to_z-of_z c.ranges.year in
    let e = rw back at c.years_since.ensures.value in
    let long : c.days_in_year.result ≡ days_in_year y = rw back at c.days_in_year.ensures in
    let year : IsYear y = search rules in
    rw c.conditional.ensures (sym (week_unnamed c.args.begin c.args.week c.args.weekday c.years_since.result y c.requires.begin year e (λ d is first last.
    elim c.then-later-start.branch [
      | then-later-start-via-then-later-start w ↦ omega (arith, is, w.if-later-start.true)
      | then-later-start-via-else-later-start+then-later-end w ↦ omega (arith, is, w.if-later-end.true)
    ])))

pub returns : goal.returns
returns c =
    let y = c.args.year in
    let back : to_z w32 (of_z w32 y) ≡ y = to_z-of_z c.ranges.year in
    let e = rw back at c.years_since.ensures.value in
    let long : c.days_in_year.result ≡ days_in_year y = rw back at c.days_in_year.ensures in
    let year : IsYear y = search rules in
    sym (week_named c.args.begin c.args.week c.args.weekday c.years_since.result c.from_count.result y c.requires.begin c.requires.weekday year e (omega arith) (omega arith) (omega arith))
