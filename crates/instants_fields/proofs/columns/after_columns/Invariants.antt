use Rattle.std.proofs.Common.{◌≡◌, ◌≤◌, length}
use Rattle.instants_fields.specs.Columns.{columns}
use Rattle.instants_fields.specs.Pieces.{rest_of}
use Rattle.instants_fields.proofs.columns.after_columns.Given as goal

abbrev pub invariant-loop-due : goal.invariant-loop-due
invariant-loop-due l = record {
  same : rest_of (columns l.separator l.due l.left) ≡ rest_of (columns l.separator l.count l.text);
  within : length l.left ≤ length l.text;
}

abbrev pub decreases-loop-due : goal.decreases-loop-due
decreases-loop-due l = l.due
