use Rattle.std.proofs.Common.{◌≡◌, ◌≤◌, length}
use Rattle.instants_fields.specs.Json.{is_space}
use Rattle.instants_fields.specs.Pieces.{without}
use Rattle.instants_fields.proofs.space.after_spaces.Given as goal

abbrev pub invariant-loop-left : goal.invariant-loop-left
invariant-loop-left l = record {
  same : without is_space l.left ≡ without is_space l.text;
  within : length l.left ≤ length l.text;
}

abbrev pub decreases-loop-left : goal.decreases-loop-left
decreases-loop-left l = length l.left
