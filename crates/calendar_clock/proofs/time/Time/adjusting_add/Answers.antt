use Rattle.std.proofs.Common.{ap, pos, ◌+ℤ◌, ◌*ℤ◌}
use Rattle.std.specs.Prelude.{int_div}
use Rattle.calendar_clock.specs.Time.{second_nanos, day_nanos}
use Rattle.calendar_clock.specs.DateAdjustment.{carry}
use Rattle.calendar_clock.proofs.ClockLemmas.{moved_on_is, days_on, next_is_on, previous_is_back}
use Rattle.calendar_clock.proofs.time.Time.adjusting_add.Goals as goal

pub returns-clause-sum : goal.returns-clause-sum
returns-clause-sum c =
    let rest = c.past_days-seconds in
    let sum = rw (moved_on_is rest.result.0 rest.result.1 rest.ensures.bound.0 rest.ensures.bound.1) at c.moved.ensures.sum in
    days_on c.args.self c.moved.result.1 c.args.duration (int_div c.args.duration (pos day_nanos)) (carry c.moved.result.0) (rest.result.0 *ℤ pos second_nanos +ℤ rest.result.1) rest.ensures.whole sum

pub returns-clause-forward : goal.returns-clause-forward
returns-clause-forward c =
    λ next. let rest = c.past_days-seconds in
    let sum = rw (moved_on_is rest.result.0 rest.result.1 rest.ensures.bound.0 rest.ensures.bound.1) at c.moved.ensures.sum in
    rest.ensures.forward (next_is_on c.args.self c.moved.result.1 (carry c.moved.result.0) (rest.result.0 *ℤ pos second_nanos +ℤ rest.result.1) c.moved.ensures.range (ap carry next) sum)

pub returns-clause-back : goal.returns-clause-back
returns-clause-back c =
    λ previous. let rest = c.past_days-seconds in
    let sum = rw (moved_on_is rest.result.0 rest.result.1 rest.ensures.bound.0 rest.ensures.bound.1) at c.moved.ensures.sum in
    rest.ensures.back (previous_is_back c.args.self c.moved.result.1 (carry c.moved.result.0) (rest.result.0 *ℤ pos second_nanos +ℤ rest.result.1) c.moved.ensures.bound (ap carry previous) sum)
