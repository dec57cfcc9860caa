use Rattle.std.proofs.Common.{◌≡◌, ◌≤◌, ◌<◌, length, None, IfSome}
use Rattle.instants_fields.specs.Compared.{says_after}
use Rattle.instants_fields.specs.Strings.{string}
use Rattle.instants_fields.proofs.string.says.Given as goal

abbrev pub invariant-loop-one : goal.invariant-loop-one
invariant-loop-one l = record {
  same : says_after l.high l.due (string l.left) ≡ says_after None l.name (string l.text);
  high : IfSome l.high (λ code. (0xd800 ≤ code) × (code < 0xdc00));
}

abbrev pub decreases-loop-one : goal.decreases-loop-one
decreases-loop-one l = length l.left
