use Rattle.std.proofs.Common.{arith, refl, ◌≡◌, to_z, of_z, w32}
use Rattle.std.proofs.lemmas.Int.{ints}
use Rattle.datetime_calls.specs.Replies.{reply_to}
use Rattle.datetime_calls.proofs.ReplyLemmas.{weekday_named}
use Rattle.datetime_calls.proofs.run.iso_week_date.Goals as goal

pub returns : goal.returns
unfolding reply_to
returns g c =
    let shown = c.to_iso_week_date-year in
    let year = shown.result.0 in
    let back : to_z w32 (of_z w32 year) ≡ year = omega (arith, ints) in
    let is = shown.ensures.value in
    let weekday = weekday_named shown.result.2 _ is.2 in
    rw (back, is.0, is.1, weekday) refl
