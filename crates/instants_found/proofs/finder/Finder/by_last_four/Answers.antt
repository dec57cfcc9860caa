use Rattle.std.proofs.Common.{arith}
use Rattle.instants_found.specs.Finder.{sources_of}
use Rattle.instants_found.proofs.KeyLemmas.{none_at_end}
use Rattle.instants_found.proofs.finder.Finder.by_last_four.Goals.{else-from-line-via-then-from-line+else-can_start, else-from-line-via-else-from-line}
use Rattle.instants_found.proofs.finder.Finder.by_last_four.Goals as goal

pub returns-clause-none : goal.returns-clause-none
returns-clause-none c =
    let sources = sources_of c.args.self.now in
    let line = c.args.line.now in
    elim c.else-from-line.branch [
      | else-from-line-via-then-from-line+else-can_start w ↦ none_at_end sources line c.args.from c.requires.long c.requires.end (λ _. w.can_start.ensures.none w.if-can_start.false)
      | else-from-line-via-else-from-line w ↦ none_at_end sources line c.args.from c.requires.long c.requires.end (λ here. absurd (w.if-from-line.false (omega (arith, here))))
    ]
