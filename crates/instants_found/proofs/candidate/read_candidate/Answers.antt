use Rattle.std.proofs.Common.{false, Some, sym, ap, ◌∙◌}
use Rattle.instants_prefixes.specs.DateSource.{grammar_in}
use Rattle.instants_found.proofs.ReadAt.{no_candidate, unread, by_read, made}
use Rattle.instants_found.proofs.candidate.read_candidate.Goals as goal

pub returns-then-lacks_byte-clause-is : goal.returns-then-lacks_byte-clause-is
returns-then-lacks_byte-clause-is c =
    sym (no_candidate c.args.given.now c.args.line.now c.args.start c.args.number (grammar_in c.args.source.now) (rw (c.after-bytes.ensures, c.source.ensures) at (c.lacks_byte.ensures c.if-lacks_byte.true)))

pub returns-in_default-clause-is : goal.returns-in_default-clause-is
returns-in_default-clause-is c = unread c.args.given.now c.args.line.now c.args.start c.args.number (grammar_in c.args.source.now) (rw c.after-bytes.ensures at c.in_default.ensures.prefix)

pub returns-then-not-is_read-clause-is : goal.returns-then-not-is_read-clause-is
returns-then-not-is_read-clause-is c =
    by_read c.args.given.now c.args.line.now c.args.start c.args.number (grammar_in c.args.source.now) c.in-Some.prefix false (rw c.after-bytes.ensures at c.in-Some.ensures.prefix) (sym c.if-not-is_read.true ∙ c.is_read.ensures)

pub returns-clause-is : goal.returns-clause-is
returns-clause-is c =
    ap Some c.candidate_with.ensures
    ∙ made c.args.given.now c.args.line.now c.args.start c.args.number (grammar_in c.args.source.now) c.in-Some.prefix c.alone-date.result c.why-doubt.result (rw c.after-bytes.ensures at c.in-Some.ensures.prefix)
    (sym c.if-not-is_read.false ∙ c.is_read.ensures) c.alone-date.ensures.is c.why-doubt.ensures
