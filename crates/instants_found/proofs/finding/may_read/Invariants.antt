use Rattle.std.proofs.Common.{◌<◌, ◌≤◌, ℕ, map}
use Rattle.std.specs.Prelude.{IfSome, slice_get}
use Rattle.instants_prefixes.specs.DateSource.{grammar_in}
use Rattle.instants_prefixes.specs.NoPrefix.{HasNoPrefix}
use Rattle.instants_found.proofs.finding.may_read.Given as goal

-- the sources so far read no prefix
abbrev pub invariant-loop-number : goal.invariant-loop-number
invariant-loop-number l = (k : ℕ) → k < l.number → l.from ≤ k → IfSome (slice_get (map grammar_in l.sources) k) (HasNoPrefix l.bytes)
