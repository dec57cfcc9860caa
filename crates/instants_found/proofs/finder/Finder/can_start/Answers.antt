use Rattle.std.proofs.Common.{sym, ◌∙◌, arith}
use Rattle.instants_found.specs.Finder.{sources_of}
use Rattle.instants_found.proofs.NoDates.{none_inside, none_starts, either_default}
use Rattle.instants_found.proofs.finder.Finder.can_start.Goals as goal

pub returns-then-self-from-clause-none : goal.returns-then-self-from-clause-none
returns-then-self-from-clause-none c = λ e. none_inside (sources_of c.args.self.now) c.args.line.now c.args.place (sym c.is_edge.ensures ∙ e)

pub returns-else-self-from-clause-none : goal.returns-else-self-from-clause-none
returns-else-self-from-clause-none c = λ e.
    none_starts (sources_of c.args.self.now) c.args.self.now.starts c.args.line.now c.args.place c.args.self.now.starts_are
    (rw c.from.ensures at (either_default c.args.self.now.starts c.from.result (omega arith) ∙ e))
