use Rattle.std.proofs.Common.{◌≤◌, ◌+◌, drop}
use Rattle.parsing_combinator.specs.Pieces.{digit_count}
use Rattle.parsing_places.proofs.long.are_digits.Given as goal

abbrev pub invariant-loop-place : goal.invariant-loop-place
invariant-loop-place l = l.place ≤ l.from + digit_count (drop l.from l.text)
