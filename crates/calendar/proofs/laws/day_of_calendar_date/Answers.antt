use Rattle.std.proofs.Common.{arith, sym, ◌∙◌, ◌≡◌, to_z, of_z, w32}
use Rattle.std.proofs.lemmas.Int.{ints}
use Rattle.calendar_count.proofs.lemmas.Days.{day_at_same}
use Rattle.calendar.proofs.LawLemmas.{only_ok}
use Rattle.calendar.proofs.laws.day_of_calendar_date.Goals as goal

pub returns : goal.returns
returns c =
    let y = c.to_calendar_date-year.result.0 in
    let back : to_z w32 (of_z w32 y) ≡ y = omega (arith, ints) in
    only_ok _ _ c.args.date ((rw back at c.from_calendar_date.ensures.succeeds).1 c.to_calendar_date-year.ensures.valid)
    (rw back at c.from_calendar_date.ensures.value)
    (λ n e. day_at_same n c.args.date (e ∙ sym c.to_calendar_date-year.ensures.value))
