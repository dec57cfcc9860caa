use Rattle.std.proofs.Common.{arith, ◌≡◌, to_z, of_z, w32}
use Rattle.std.proofs.lemmas.Int.{ints}
use Rattle.calendar_count.specs.Range.{IsCount}
use Rattle.calendar.proofs.LawLemmas.{only_ok, views_undone}
use Rattle.calendar.proofs.laws.day_of_ordinal_date.Goals as goal

pub returns : goal.returns
returns c =
    let in_range : IsCount c.args.date = omega arith in
    let views = views_undone c.args.date in_range in
    let y = c.to_ordinal_date-year.result.0 in
    let back : to_z w32 (of_z w32 y) ≡ y = omega (arith, ints) in
    let year = c.to_ordinal_date-year.ensures.year in
    let ordinal = c.to_ordinal_date-year.ensures.ordinal in
    only_ok _ _ c.args.date ((rw (back, year, ordinal) at c.from_ordinal_date.ensures.succeeds).1 views.ordinal_date)
    (rw (back, year, ordinal) at c.from_ordinal_date.ensures.value)
    (λ n e. views.ordinal_date_only n e.0 e.1)
