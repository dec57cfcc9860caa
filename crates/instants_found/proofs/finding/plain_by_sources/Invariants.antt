use Rattle.std.proofs.Common.{◌≡◌, map, None}
use Rattle.instants_prefixes.specs.DateSource.{grammar_in}
use Rattle.instants_found.specs.Candidate.{longest}
use Rattle.instants_prefixes.specs.Given.{nothing}
use Rattle.instants_found.proofs.finding.plain_by_sources.Given as goal

-- the sources so far read no date
abbrev pub invariant-loop-number : goal.invariant-loop-number
invariant-loop-number l = None ≡ longest nothing (map grammar_in l.sources) l.line l.start l.number
