use Rattle.instants_found.specs.Finder.{sources_of}
use Rattle.instants_found.proofs.NoDates.{none_there}
use Rattle.instants_found.proofs.finder.Finder.has_start.Goals as goal

pub returns-clause-none : goal.returns-clause-none
returns-clause-none c = λ e. none_there (sources_of c.args.self.now) c.args.line.now c.args.start (rw (c.as_slice.ensures.value, c.after.ensures) at (c.may_read.ensures e))
