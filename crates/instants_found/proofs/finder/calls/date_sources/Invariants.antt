use Rattle.std.proofs.Common.{◌≡◌, map}
use Rattle.instants_prefixes.specs.DateSource.{grammar_in}
use Rattle.instants_sources.specs.Grammar.{grammar_of}
use Rattle.instants_found.proofs.finder.calls.date_sources.Given as goal

-- the sources so far are those that were looked at
abbrev pub invariant-loop-source : goal.invariant-loop-source
invariant-loop-source l = map grammar_in l.dated.items ≡ map grammar_of l.yielded
