use Rattle.std.proofs.Common.{sym, pos, ◌+ℤ◌}
use Rattle.std.specs.Prelude.{int_div}
use Rattle.calendar_clock.specs.Time.{day_nanos}
use Rattle.calendar_clock.specs.DateAdjustment.{carry}
use Rattle.calendar_clock.proofs.ClockLemmas.{round_clock}
use Rattle.calendar_clock.proofs.time_moved.TimeAddSignedDuration.add.Goals as goal

pub returns : goal.returns
returns c =
    rw c.adjusting_add-time.ensures.sum (sym (round_clock (int_div c.args.duration (pos day_nanos) +ℤ carry c.adjusting_add-time.result.0) c.adjusting_add-time.result.1 c.adjusting_add-time.ensures.bound))
