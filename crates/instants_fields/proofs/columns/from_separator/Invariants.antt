use Rattle.std.proofs.Common.{◌≡◌, ◌≤◌, length}
use Rattle.instants_fields.specs.Columns.{is_other}
use Rattle.instants_fields.specs.Pieces.{without}
use Rattle.instants_fields.proofs.columns.from_separator.Given as goal

abbrev pub invariant-loop-left : goal.invariant-loop-left
invariant-loop-left l = record {
  same : without (is_other l.separator) l.left ≡ without (is_other l.separator) l.text;
  within : length l.left ≤ length l.text;
}

abbrev pub decreases-loop-left : goal.decreases-loop-left
decreases-loop-left l = length l.left
