use Rattle.std.proofs.Common.{◌≤◌, ◌+◌, ◌-◌}
use Rattle.instants_fields.proofs.PlainRuns.{BeginFree}
use Rattle.instants_fields.proofs.plain.is_all_free.Given as goal

abbrev pub invariant-loop-count : goal.invariant-loop-count
invariant-loop-count l = record {
  free : BeginFree l.count l.text;
  within : l.count ≤ l.last + 15;
}

abbrev pub decreases-loop-count : goal.decreases-loop-count
decreases-loop-count l = l.last + 16 - l.count
