use Rattle.std.proofs.Common.{◌≡◌, map, Some}
use Rattle.instants_prefixes.specs.DateSource.{grammar_in}
use Rattle.instants_found.specs.Candidate.{longest}
use Rattle.instants_found.proofs.finding.with_others.Given as goal

-- the longest of the sources so far
abbrev pub invariant-loop-number : goal.invariant-loop-number
invariant-loop-number l = Some l.longest ≡ longest l.given (map grammar_in l.sources) l.line l.start l.number
