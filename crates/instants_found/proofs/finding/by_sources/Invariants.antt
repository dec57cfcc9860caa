use Rattle.std.proofs.Common.{◌≡◌, map, None}
use Rattle.instants_prefixes.specs.DateSource.{grammar_in}
use Rattle.instants_found.specs.Candidate.{longest}
use Rattle.instants_found.specs.KeptDays.{IsKept}
use Rattle.instants_found.proofs.finding.by_sources.Given as goal

-- the sources so far read no date
abbrev pub invariant-loop-number : goal.invariant-loop-number
invariant-loop-number l = record {
  kept : IsKept l.given.zone l.kept;
  none : None ≡ longest l.given (map grammar_in l.sources) l.line l.start l.number;
}
