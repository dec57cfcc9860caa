use Rattle.std.proofs.Common.{◌≤◌, ◌+◌, length}
use Rattle.parsing_plan.proofs.read.digits_at.Given as goal

abbrev pub invariant-loop-count : goal.invariant-loop-count
invariant-loop-count l = l.place + l.count ≤ length l.line
