use Rattle.std.proofs.Common.{length, ◌-◌, ◌≤◌, ◌≡◌}
use Rattle.instants_lines_program.proofs.zone_names.read_bytes.Given as goal

abbrev pub invariant-loop-count : goal.invariant-loop-count
invariant-loop-count l = (l.count ≤ length l.room) × (length l.room ≡ length l.initial.room)

abbrev pub decreases-loop-count : goal.decreases-loop-count
decreases-loop-count l = length l.room - l.count
