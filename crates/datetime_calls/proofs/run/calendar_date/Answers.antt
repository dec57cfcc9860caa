use Rattle.std.proofs.Common.{arith, refl, ap, ◌≡◌, to_z, of_z, w32}
use Rattle.std.proofs.lemmas.Int.{ints}
use Rattle.calendar_count.specs.Calendar.{YearMonthDay}
use Rattle.datetime_calls.specs.Replies.{reply_to}
use Rattle.datetime_calls.proofs.ReplyLemmas.{month_named}
use Rattle.datetime_calls.proofs.run.calendar_date.Goals as goal

pub returns : goal.returns
unfolding reply_to
returns g c =
    let shown = c.to_calendar_date-year in
    let year = shown.result.0 in
    let back : to_z w32 (of_z w32 year) ≡ year = omega (arith, ints) in
    let month = month_named shown.result.1 _ (ap (λ (day : YearMonthDay). day.month) shown.ensures.value) in
    rw (back, month, shown.ensures.value) refl
