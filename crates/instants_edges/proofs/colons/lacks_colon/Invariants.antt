use Rattle.std.proofs.Common.{◌-◌}
use Rattle.instants_edges.proofs.NoClocks.{HasNoColon}
use Rattle.instants_edges.proofs.colons.lacks_colon.Given as goal

abbrev pub invariant-loop-at : goal.invariant-loop-at
invariant-loop-at l = HasNoColon l.line l.at

abbrev pub decreases-loop-at : goal.decreases-loop-at
decreases-loop-at l = l.last - l.at
