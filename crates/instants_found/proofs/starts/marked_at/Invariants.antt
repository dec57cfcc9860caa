use Rattle.std.proofs.Common.{map}
use Rattle.instants_sources.specs.Grammar.{grammar_of}
use Rattle.instants_found.specs.Starts.{AreMarked, index_of}
use Rattle.instants_found.proofs.starts.marked_at.Given as goal

abbrev pub invariant-loop-byte : goal.invariant-loop-byte
invariant-loop-byte l = AreMarked (index_of l.place) (map grammar_of l.sources) l.marked
