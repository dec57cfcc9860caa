use Rattle.std.proofs.Common.{◌≡◌}
use Rattle.instants_edges.specs.Beside.{is_any}
use Rattle.instants_found.specs.Zoned.{has_other_name}
use Rattle.instants_found.proofs.zoned.has_other_inside.Given as goal

abbrev pub invariant-loop-place : goal.invariant-loop-place
invariant-loop-place l = is_any (has_other_name l.zone l.line l.moment) l.place l.ends ≡ is_any (has_other_name l.zone l.line l.moment) l.start l.ends
