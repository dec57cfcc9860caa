use Rattle.std.proofs.Common.{take}
use Rattle.std.specs.Prelude.{All}
use Rattle.instants_sources.specs.Grammar.{grammar_of}
use Rattle.instants_sources.specs.declared.source.Source.{Source}
use Rattle.instants_found.specs.Starts.{CannotStand, index_of}
use Rattle.instants_found.proofs.starts.some_has.Given as goal

-- no date of the sources so far has the byte at the place
abbrev pub invariant-loop-number : goal.invariant-loop-number
invariant-loop-number l = All (λ (source : Source). CannotStand (index_of l.place) l.byte (grammar_of source)) (take l.number l.sources)
