use Rattle.std.proofs.Common.{arith, ◌≡◌, to_z, of_z, w32}
use Rattle.std.proofs.lemmas.Int.{ints}
use Rattle.calendar_count.specs.Range.{IsCount}
use Rattle.calendar.proofs.LawLemmas.{only_not_err, views_undone}
use Rattle.calendar.proofs.laws.day_of_iso_week_date.Goals as goal

pub returns : goal.returns
returns c =
    let in_range : IsCount c.args.date = omega arith in
    let views = views_undone c.args.date in_range in
    let y = c.to_iso_week_date-year.result.0 in
    let back : to_z w32 (of_z w32 y) ≡ y = omega (arith, ints) in
    let is = c.to_iso_week_date-year.ensures.value in
    only_not_err _ _ c.args.date in_range is (rw back at c.from_iso_week_date.ensures.none) (rw back at c.from_iso_week_date.ensures.value)
    (λ n h. views.iso_week_date_only n (rw (is.0, is.1, is.2) h))
