use Rattle.std.proofs.Common.{arith, ap, pos, neg_ℤ, ◌+ℤ◌, ◌*ℤ◌}
use Rattle.std.specs.Prelude.{int_div}
use Rattle.calendar_clock.specs.Time.{second_nanos, day_nanos}
use Rattle.calendar_clock.specs.DateAdjustment.{carry}
use Rattle.calendar_clock.proofs.ClockLemmas.{moved_back_is, small_back, fits_back, days_back, next_is_on, previous_is_back, turned_back, turned_on}
use Rattle.calendar_clock.proofs.time.Time.adjusting_sub.Goals as goal

pub overflow_sub-seconds : goal.overflow_sub-seconds
overflow_sub-seconds c =
    let rest = c.past_days-seconds in
    fits_back rest.result.0 86_400 (omega arith) rest.ensures.bound.0

pub overflow_sub-nanoseconds : goal.overflow_sub-nanoseconds
overflow_sub-nanoseconds c =
    let rest = c.past_days-seconds in
    fits_back rest.result.1 second_nanos (omega arith) rest.ensures.bound.1

pub moved-requires : goal.moved-requires
moved-requires c =
    let rest = c.past_days-seconds in
    record {
      seconds = small_back rest.result.0 86_400 (omega arith) rest.ensures.bound.0;
      nanoseconds = small_back rest.result.1 second_nanos (omega arith) rest.ensures.bound.1;
    }

pub returns-clause-sum : goal.returns-clause-sum
returns-clause-sum c =
    let rest = c.past_days-seconds in
    let sum = rw (moved_back_is rest.result.0 rest.result.1 rest.ensures.bound.0 rest.ensures.bound.1) at c.moved.ensures.sum in
    days_back c.args.self c.moved.result.1 c.args.duration (int_div c.args.duration (pos day_nanos)) (carry c.moved.result.0) (rest.result.0 *ℤ pos second_nanos +ℤ rest.result.1) rest.ensures.whole sum

pub returns-clause-forward : goal.returns-clause-forward
returns-clause-forward c =
    λ next. let rest = c.past_days-seconds in
    let p = rest.result.0 *ℤ pos second_nanos +ℤ rest.result.1 in
    let sum = rw (moved_back_is rest.result.0 rest.result.1 rest.ensures.bound.0 rest.ensures.bound.1) at c.moved.ensures.sum in
    rest.ensures.back (turned_back p (next_is_on c.args.self c.moved.result.1 (carry c.moved.result.0) (neg_ℤ p) c.moved.ensures.range (ap carry next) sum))

pub returns-clause-back : goal.returns-clause-back
returns-clause-back c =
    λ previous. let rest = c.past_days-seconds in
    let p = rest.result.0 *ℤ pos second_nanos +ℤ rest.result.1 in
    let sum = rw (moved_back_is rest.result.0 rest.result.1 rest.ensures.bound.0 rest.ensures.bound.1) at c.moved.ensures.sum in
    rest.ensures.forward (turned_on p (previous_is_back c.args.self c.moved.result.1 (carry c.moved.result.0) (neg_ℤ p) c.moved.ensures.bound (ap carry previous) sum))
