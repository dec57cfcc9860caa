use Rattle.std.proofs.Common.{drop, sym, ap, ◌∙◌}
use Rattle.instants_prefixes.specs.DateSource.{grammar_in}
use Rattle.instants_prefixes.specs.Reading.{record_at}
use Rattle.instants_found.specs.Beside.{doubt_by, otherwise}
use Rattle.instants_found.proofs.Needless.{says_nothing}
use Rattle.instants_found.proofs.beside.otherwise.Goals as goal

pub returns-then-is_nothing : goal.returns-then-is_nothing
unfolding otherwise
returns-then-is_nothing c =
    let read = record_at (grammar_in c.args.source.now) (drop c.args.start c.args.line.now) in
    says_nothing read c.beside-said.result (sym c.is_nothing.ensures ∙ c.if-is_nothing.true) ∙ ap (doubt_by read) c.beside-said.ensures

pub returns : goal.returns
unfolding otherwise
returns c = cc
