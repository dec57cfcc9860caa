use Rattle.std.proofs.Common.{◌≡◌, ◌≤◌, ◌+◌, ◌*◌, length}
use Rattle.instants_fields.specs.Json.{value, turn, items}
use Rattle.instants_fields.specs.Pieces.{repeated}
use Rattle.instants_fields.specs.Found.{as_other}
use Rattle.instants_fields.proofs.value.+value.Given as goal

abbrev pub decreases-value : goal.decreases-value
decreases-value l = 3 * l.levels + 1

abbrev pub decreases-other_value : goal.decreases-other_value
decreases-other_value l = 3 * l.levels

abbrev pub decreases-items : goal.decreases-items
decreases-items l = 3 * l.levels + 2

abbrev pub invariant-items-loop-rest : goal.invariant-items-loop-rest
invariant-items-loop-rest l = record {
  same : as_other (repeated (turn l.is_object (value l.levels)) l.left) ≡ as_other (items l.is_object (value l.levels) l.text);
  within : length l.left ≤ length l.text;
}

abbrev pub decreases-items-loop-rest : goal.decreases-items-loop-rest
decreases-items-loop-rest l = length l.left
