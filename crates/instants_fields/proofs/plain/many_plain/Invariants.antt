use Rattle.std.proofs.Common.{◌≤◌, ◌-◌, length}
use Rattle.instants_fields.proofs.PlainRuns.{BeginPlain}
use Rattle.instants_fields.proofs.plain.many_plain.Given as goal

abbrev pub invariant-loop-count : goal.invariant-loop-count
invariant-loop-count l = record {
  plain : BeginPlain l.count l.text;
  within : l.count ≤ length l.text;
}

abbrev pub decreases-loop-count : goal.decreases-loop-count
decreases-loop-count l = length l.text - l.count
