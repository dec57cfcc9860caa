use Rattle.std.proofs.Common.{◌≤◌, ◌-◌, length}
use Rattle.instants_found.specs.Finder.{sources_of}
use Rattle.instants_found.specs.Starts.{HasNoDate}
use Rattle.instants_found.proofs.finder.Finder.by_blocks.Given as goal

-- no date begins at the places so far
abbrev pub invariant-loop-at : goal.invariant-loop-at
invariant-loop-at l = record { low : l.from ≤ l.at; high : l.at ≤ length l.line; passed : HasNoDate (sources_of l.self) l.line l.from l.at }

abbrev pub decreases-loop-at : goal.decreases-loop-at
decreases-loop-at l = length l.line - l.at
