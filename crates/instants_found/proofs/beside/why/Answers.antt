use Rattle.std.proofs.Common.{sym}
use Rattle.instants_prefixes.specs.DateSource.{grammar_in}
use Rattle.instants_found.proofs.Needless.{nothing_why}
use Rattle.instants_found.proofs.beside.why.Goals as goal

pub returns-then-assumes_nothing : goal.returns-then-assumes_nothing
returns-then-assumes_nothing c =
    nothing_why c.args.given.now (grammar_in c.args.source.now) c.args.line.now c.args.start c.args.date.now c.in_default.ensures (sym c.in_default-doubt.is)
    (c.assumes_nothing.ensures.offset c.if-assumes_nothing.true) (c.assumes_nothing.ensures.years c.if-assumes_nothing.true) (c.assumes_nothing.ensures.time c.if-assumes_nothing.true)
