use Rattle.std.proofs.Common.{sym, pos, ◌-ℤ◌}
use Rattle.std.specs.Prelude.{int_div}
use Rattle.calendar_clock.specs.Time.{day_nanos}
use Rattle.calendar_clock.specs.DateAdjustment.{carry}
use Rattle.calendar_clock.proofs.ClockLemmas.{round_clock}
use Rattle.calendar_clock.proofs.time_moved.TimeSubSignedDuration.sub.Goals as goal

pub returns : goal.returns
returns c =
    rw c.adjusting_sub-time.ensures.sum (sym (round_clock (carry c.adjusting_sub-time.result.0 -ℤ int_div c.args.duration (pos day_nanos)) c.adjusting_sub-time.result.1 c.adjusting_sub-time.ensures.bound))
