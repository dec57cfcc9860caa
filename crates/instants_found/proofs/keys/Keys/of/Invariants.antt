use Rattle.std.proofs.Common.{take}
use Rattle.std.specs.Prelude.{All}
use Rattle.instants_sources.specs.Grammar.{grammar_of}
use Rattle.instants_sources.specs.declared.source.Source.{Source}
use Rattle.instants_found.specs.Keys.{NeedsOne}
use Rattle.instants_found.proofs.keys.Keys.of.Given as goal

-- the keys are those of the sources so far
abbrev pub invariant-loop-number : goal.invariant-loop-number
invariant-loop-number l = All (λ (source : Source). NeedsOne l.keys (grammar_of source)) (take l.number l.sources)
