use Rattle.std.proofs.Common.{◌≡◌, ◌∷◌, [], arith, map}
use Rattle.instants_prefixes.specs.DateSource.{grammar_in}
use Rattle.instants_found.specs.Finder.{limit_of}
use Rattle.instants_found.proofs.Wholly.{one_of, wholly_found}
use Rattle.instants_found.proofs.finder.Finder.whole_date.Goals as goal

pub returns-clause-found : goal.returns-clause-found
returns-clause-found c = λ given.
    let items = c.args.self.now.sources.items in
    let source = c.source-item.result in
    let only : items ≡ source ∷ [] = one_of items source (rw c.as_slice.ensures.value at c.in-len1.len_at_least) (rw c.as_slice.ensures.value at c.in-len1.len_below) (rw c.as_slice.ensures.value at c.source-item.is) in
    rw (c.found_at.ensures, only) (wholly_found (limit_of c.args.self.now) given (grammar_in source) c.args.text.now c.in-Some.prefix (omega (arith, c.if-self-eq0.false)) c.in-Some.ensures.all)
