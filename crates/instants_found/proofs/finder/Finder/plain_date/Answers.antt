use Rattle.std.proofs.Common.{length, min, refl, arith}
use Rattle.instants_found.specs.Found.{found, looked_at, first_found}
use Rattle.instants_found.specs.Finder.{sources_of, limit_of}
use Rattle.instants_found.specs.declared.found.Finding.TheVariants.{There}
use Rattle.instants_found.proofs.NoDates.{found_here, none_further}
use Rattle.instants_prefixes.specs.Given.{nothing}
use Rattle.instants_found.proofs.finder.Finder.plain_date.Goals as goal

pub returns : goal.returns
unfolding found first_found
returns c =
    let given = nothing in
    let sources = sources_of c.args.self.now in
    let line = looked_at (limit_of c.args.self.now) c.args.line.now in
    found_here given sources line c.args.first (min (limit_of c.args.self.now) (length line)) (There c.in-Some.date) (omega arith)
    (none_further given sources line 0 c.args.first (omega arith) refl c.requires.passed) (rw (c.as_slice.ensures.value, c.looked_at.ensures) at c.in-Some.ensures)
