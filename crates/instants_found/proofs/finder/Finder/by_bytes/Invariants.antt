use Rattle.instants_found.specs.Finder.{sources_of}
use Rattle.instants_found.specs.Starts.{HasNoDate}
use Rattle.instants_found.proofs.finder.Finder.by_bytes.Given as goal

-- no date begins at the places so far
abbrev pub invariant-loop-place : goal.invariant-loop-place
invariant-loop-place l = HasNoDate (sources_of l.self) l.line l.from l.place
