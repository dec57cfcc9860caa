use Rattle.std.proofs.Common.{◌≡◌, ◌≤◌, length}
use Rattle.instants_fields.specs.Columns.{after_mark}
use Rattle.instants_fields.proofs.columns.after_mark.Given as goal

abbrev pub invariant-loop-left : goal.invariant-loop-left
invariant-loop-left l = record {
  same : after_mark l.left ≡ after_mark l.text;
  within : length l.left ≤ length l.text;
}

abbrev pub decreases-loop-left : goal.decreases-loop-left
decreases-loop-left l = length l.left
