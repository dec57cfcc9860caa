use Rattle.std.proofs.Common.{Option, length, subst, sym}
use Rattle.std.specs.Prelude.{IfSome}
use Rattle.instants_found.specs.Found.{found}
use Rattle.instants_found.specs.Finder.{sources_of, limit_of}
use Rattle.instants_found.specs.Within.{IsWithin}
use Rattle.instants_found.specs.declared.found.Finding.{Finding}
use Rattle.instants_found.proofs.NearFound.{found_within}
use Rattle.instants_found.proofs.finder.Finder.find_from.Goals as goal

pub returns-clause-within : goal.returns-clause-within
unfolding found
returns-clause-within c =
    let P : Option Finding → Type 0 = λ o. IfSome o (IsWithin (limit_of c.args.self.now) c.args.line.now (length (sources_of c.args.self.now))) in
    subst P (sym (rw c.looked_at.ensures at c.find_in.ensures.is)) (found_within (limit_of c.args.self.now) c.args.given.now (sources_of c.args.self.now) c.args.line.now)
