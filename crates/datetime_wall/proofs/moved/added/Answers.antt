use Rattle.std.proofs.Common.{arith, refl, ◌≡◌, ◌+ℤ◌, ℤ, pos}
use Rattle.std.specs.Prelude.{int_div}
use Rattle.calendar_count.proofs.lemmas.Signed.{signed}
use Rattle.calendar_clock.specs.DateAdjustment.{carry}
use Rattle.datetime_wall.specs.Wall.{day_nanos}
use Rattle.datetime_wall.proofs.lemmas.WallClocks.{IsWallClock-wall_clock}
use Rattle.datetime_wall.proofs.DurationLemmas.{moved_wall_clock, moved_day_within}
use Rattle.datetime_wall.proofs.moved.added.Goals as goal

pub returns-in_err-date-clause-some : goal.returns-in_err-date-clause-some
returns-in_err-date-clause-some c =
    let days : ℤ = int_div c.args.duration (pos day_nanos) +ℤ carry c.adjusting_add-adjustment.result.0 in
    let adjusted = c.adjusting_add-adjustment in
    rw c.from_residual.ensures (
      λ e. absurd (cc e),
      λ within.
          let day = moved_day_within c.args.date c.args.time adjusted.result.1 (c.args.duration) days adjusted.ensures.sum adjusted.ensures.bound within in
          absurd (cc (c.in_err-date.ensures.some.1 (omega (arith, signed, day.0, c.whole_days.ensures.value, c.whole_days.ensures.bound, c.carried_days.ensures.value, c.carried_days.ensures.bound), omega (arith, signed, day.1, c.whole_days.ensures.value, c.whole_days.ensures.bound, c.carried_days.ensures.value, c.carried_days.ensures.bound)))),
    )

pub returns-clause-value : goal.returns-clause-value
returns-clause-value c =
    let days : ℤ = int_div c.args.duration (pos day_nanos) +ℤ carry c.adjusting_add-adjustment.result.0 in
    let adjusted = c.adjusting_add-adjustment in
    let later : pos c.in_ok-date.date ≡ pos c.args.date +ℤ days = omega (arith, signed, c.in_ok-date.ensures.value, c.whole_days.ensures.value, c.whole_days.ensures.bound, c.carried_days.ensures.value, c.carried_days.ensures.bound) in
    moved_wall_clock c.args.date c.args.time c.in_ok-date.date adjusted.result.1 (c.args.duration) days adjusted.ensures.sum later

pub returns-clause-some : goal.returns-clause-some
returns-clause-some c =
    let value = returns-clause-value c in
    (λ _. rw value at (IsWallClock-wall_clock c.in_ok-date.date c.adjusting_add-adjustment.result.1 c.in_ok-date.ensures.bound c.adjusting_add-adjustment.ensures.bound), λ _. refl)
