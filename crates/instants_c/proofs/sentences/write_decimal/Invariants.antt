use Rattle.std.proofs.Common.{◌≡◌, ◌≤◌, false, drop, length}
use Rattle.std.specs.Fmt.{digits_onto, decimal}
use Rattle.instants_c.proofs.sentences.write_decimal.Given as goal

abbrev pub invariant-loop-at : goal.invariant-loop-at
invariant-loop-at l = record {
  within : l.at ≤ 64;
  room : length l.digits ≡ 64;
  so_far : digits_onto l.at 10 false l.rest (drop l.at l.digits) ≡ decimal l.number;
}

abbrev pub decreases-loop-at : goal.decreases-loop-at
decreases-loop-at l = l.at
