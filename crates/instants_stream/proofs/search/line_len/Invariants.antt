use Rattle.std.proofs.Common.{◌≤◌, ◌-◌, length, take}
use Rattle.instants_stream.specs.Lines.{HasNoLineFeed}
use Rattle.instants_stream.proofs.search.line_len.Given as goal

abbrev pub invariant-loop-at : goal.invariant-loop-at
invariant-loop-at l = (l.at ≤ length l.bytes) × HasNoLineFeed (take l.at l.bytes)

abbrev pub decreases-loop-at : goal.decreases-loop-at
decreases-loop-at l = length l.bytes - l.at
