use Rattle.std.proofs.Common.{◌≡◌}
use Rattle.calendar_spans.specs.DurationSum.{total, HasPartialSums}
use Rattle.calendar_spans.proofs.duration.SignedDuration.try_sum.Given as goal

abbrev pub invariant-loop-duration : goal.invariant-loop-duration
invariant-loop-duration g l =
    record {
      can : (goal.iterator-loop-duration g).can_next l.duration-iterator;
      ends : (goal.iterator-loop-duration g).is_finite l.duration-iterator;
      sum : l.sum ≡ total l.yielded;
      prefixes : HasPartialSums l.yielded;
    }
