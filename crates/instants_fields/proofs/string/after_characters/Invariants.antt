use Rattle.std.proofs.Common.{◌≡◌, ◌≤◌, length}
use Rattle.instants_fields.specs.Pieces.{rest_of}
use Rattle.instants_fields.specs.Strings.{string}
use Rattle.instants_fields.proofs.string.after_characters.Given as goal

abbrev pub invariant-loop-one : goal.invariant-loop-one
invariant-loop-one l = record {
  same : rest_of (string l.left) ≡ rest_of (string l.text);
  within : length l.left ≤ length l.text;
}

abbrev pub decreases-loop-one : goal.decreases-loop-one
decreases-loop-one l = length l.left
