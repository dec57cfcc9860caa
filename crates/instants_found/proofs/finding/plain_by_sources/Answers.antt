use Rattle.std.proofs.Common.{◌+◌, length, map, None, refl, sym, ap, ◌∙◌, arith}
use Rattle.std.specs.Prelude.{option_map}
use Rattle.instants_prefixes.specs.DateSource.{grammar_in}
use Rattle.instants_found.specs.Candidate.{candidate}
use Rattle.instants_found.specs.Found.{finding}
use Rattle.instants_found.proofs.ReadAt.{no_candidate}
use Rattle.instants_found.proofs.Longest.{alone, one_more, none_after}
use Rattle.instants_prefixes.specs.Given.{nothing}
use Rattle.instants_found.proofs.finding.plain_by_sources.Goals as goal

pub loop-number-preserved : goal.loop-number-preserved
loop-number-preserved c =
    let source = c.index-sources-number.result in
    let none = no_candidate nothing c.args.line.now c.args.start c.loop-number.number (grammar_in source) (rw (c.after-bytes.ensures, c.source.ensures) at (c.lacks_byte.ensures c.if-lacks_byte.true)) in
    one_more nothing c.args.line.now c.args.start c.args.sources.now c.loop-number.number source None None (omega arith) c.index-sources-number.is c.loop-number.invariant (sym none)

pub returns-in-loop-number : goal.returns-in-loop-number
returns-in-loop-number c =
    let given = nothing in
    let line = c.args.line.now in
    let start = c.args.start in
    let sources = c.args.sources.now in
    let number = c.loop-number.number in
    let source = c.index-sources-number.result in
    let first = one_more given line start sources number source None (candidate given line start number (grammar_in source)) (omega arith) c.index-sources-number.is c.loop-number.invariant refl in
    let others = none_after given line start (map grammar_in sources) (number + 1) (length sources) (omega arith) (rw c.after-bytes.ensures at (c.others_may_read.ensures c.if-others_may_read.false)) in
    c.in-Some.ensures ∙ ap (option_map (finding start)) (alone (candidate given line start number (grammar_in source)) ∙ first ∙ sym others)
