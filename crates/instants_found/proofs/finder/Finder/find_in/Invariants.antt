use Rattle.std.proofs.Common.{◌<◌, ◌-◌, length}
use Rattle.instants_found.specs.Finder.{sources_of}
use Rattle.instants_found.specs.KeptDays.{IsKept}
use Rattle.instants_found.proofs.NoDates.{NoneUpTo}
use Rattle.instants_found.proofs.finder.Finder.find_in.Given as goal

-- nothing is found at the places so far
abbrev pub invariant-loop-start : goal.invariant-loop-start
invariant-loop-start l = record { within : l.start < length l.line; kept : IsKept l.given.zone l.kept; so_far : NoneUpTo l.given (sources_of l.self) l.line l.start }

abbrev pub decreases-loop-start : goal.decreases-loop-start
decreases-loop-start l = length l.line - l.start
