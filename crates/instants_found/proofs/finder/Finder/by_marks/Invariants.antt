use Rattle.std.proofs.Common.{◌≤◌, ◌-◌}
use Rattle.instants_found.specs.Finder.{sources_of}
use Rattle.instants_found.specs.Starts.{HasNoDate, MarkPlaces}
use Rattle.instants_found.proofs.finder.Finder.by_marks.Given as goal

-- no date begins at the places so far, and the bits that are left are those of the others
abbrev pub invariant-loop-left : goal.invariant-loop-left
invariant-loop-left l = record {
  low : l.from ≤ l.at;
  high : l.at ≤ l.to;
  passed : HasNoDate (sources_of l.self) l.line l.from l.at;
  marks : MarkPlaces (sources_of l.self) l.line l.at l.to l.left;
}

abbrev pub decreases-loop-left : goal.decreases-loop-left
decreases-loop-left l = l.to - l.at
