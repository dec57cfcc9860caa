use Rattle.std.proofs.Common.{◌≡◌, ◌≤◌, length, true, None}
use Rattle.instants_fields.specs.Pieces.{repeated}
use Rattle.instants_fields.specs.Json.{value, turn}
use Rattle.instants_fields.specs.Found.{found_of, AreWithin}
use Rattle.instants_fields.proofs.json.find_in_members.Given as goal

abbrev pub invariant-loop-rest : goal.invariant-loop-rest
invariant-loop-rest l = record {
  same : found_of l.name l.found (repeated (turn true (value 126)) l.left) ≡ found_of l.name None (repeated (turn true (value 126)) l.text);
  within : length l.left ≤ length l.text;
  lies : AreWithin (length l.text) l.found;
}

abbrev pub decreases-loop-rest : goal.decreases-loop-rest
decreases-loop-rest l = length l.left
