use Rattle.std.proofs.Common.{◌≡◌, get_or, List, subst, ◌∙◌}
use Rattle.instants_prefixes.specs.declared.date_source.DateSource.{DateSource}
use Rattle.instants_found.specs.Finder.{limit_of}
use Rattle.instants_found.proofs.DoubtOf.{no_source, doubt_here}
use Rattle.instants_found.proofs.finder.Finder.doubt_of.Goals as goal

pub returns-then-number-sources-clause-is : goal.returns-then-number-sources-clause-is
returns-then-number-sources-clause-is c =
    let past = rw c.as_slice-sources.ensures.value at c.if-number-sources.true in
    no_source (limit_of c.args.self.now) c.args.given.now c.args.self.now.sources.items c.args.line.now c.args.start c.args.number past

pub returns-clause-is : goal.returns-clause-is
returns-clause-is c =
    let source = c.index-sources-number.result in
    let within = rw c.as_slice-sources.ensures.value at c.if-number-sources.false in
    let P : List DateSource → Type 0 = λ xs. source ≡ get_or xs c.args.number source in
    let is = subst P c.as_slice-sources.ensures.value c.index-sources-number.is in
    rw c.looked_at.ensures at c.doubted_at.ensures.is ∙ doubt_here (limit_of c.args.self.now) c.args.given.now c.args.self.now.sources.items c.args.line.now c.args.start c.args.number source within is
