use Rattle.std.proofs.Common.{◌≡◌, ℕ, length, min, refl, arith, Option, None, Some}
use Rattle.std.specs.Prelude.{IfNone}
use Rattle.instants_prefixes.specs.declared.given.Given.{Given}
use Rattle.instants_found.specs.Found.{found, looked_at, first_found}
use Rattle.instants_found.specs.Finder.{sources_of, limit_of}
use Rattle.instants_found.specs.Starts.{HasNoDate}
use Rattle.instants_found.proofs.NoDates.{none_further}
use Rattle.instants_found.proofs.finder.Finder.undated_len.Goals as goal

none_of : (given : Option ℕ) (holds follows : Type 0) → (holds → follows) → IfNone given holds → IfNone given follows
none_of None holds follows so is = so is
none_of (Some start) holds follows so is = is

pub returns-clause-none : goal.returns-clause-none
unfolding found first_found
returns-clause-none c =
    let sources = sources_of c.args.self.now in
    let limit = limit_of c.args.self.now in
    let line = looked_at limit c.args.line.now in
    none_of c.next_start.result (HasNoDate sources line 0 (min limit (length line))) ((given : Given) → found limit given sources c.args.line.now ≡ None)
    (λ none given. none_further given sources line 0 (min limit (length line)) (omega arith) refl none)
    (rw c.looked_at.ensures at c.next_start.ensures.none)
