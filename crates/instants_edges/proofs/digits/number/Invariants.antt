use Rattle.std.proofs.Common.{◌≡◌, ◌^◌, ◌<◌, take}
use Rattle.instants_edges.proofs.Numbers.{of_digits}
use Rattle.instants_edges.proofs.digits.number.Given as goal

abbrev pub invariant-loop-byte : goal.invariant-loop-byte
invariant-loop-byte l = record {
  value : l.number ≡ of_digits (take l.byte-index l.word);
  bound : l.number < 10 ^ l.byte-index;
}
