use Rattle.std.proofs.Common.{◌+◌, length, map, Bool, false, Some, None, sym, ap, ◌∙◌, arith}
use Rattle.std.specs.Prelude.{not, option_map, if◌then◌else◌}
use Rattle.instants_prefixes.specs.DateSource.{grammar_in}
use Rattle.instants_found.specs.Candidate.{candidate_with, found_at}
use Rattle.instants_found.specs.Found.{finding}
use Rattle.instants_found.specs.declared.found.Found.{Found}
use Rattle.instants_found.specs.declared.found.Finding.TheVariants.{Doubtful, There}
use Rattle.instants_found.proofs.ReadAt.{no_candidate, unread, by_read, made}
use Rattle.instants_found.proofs.Longest.{one_more, none_after}
use Rattle.instants_found.proofs.finding.by_sources.Goals as goal

pub loop-number-preserved-then-lacks_byte : goal.loop-number-preserved-then-lacks_byte
loop-number-preserved-then-lacks_byte c =
    let source = c.index-sources-number.result in
    let none = no_candidate c.args.given.now c.args.line.now c.args.start c.loop-number.number (grammar_in source) (rw (c.after-bytes.ensures, c.source.ensures) at (c.lacks_byte.ensures c.if-lacks_byte.true)) in
    record {
      kept = c.loop-number.invariant.kept;
      none = one_more c.args.given.now c.args.line.now c.args.start c.args.sources.now c.loop-number.number source None None (omega arith) c.index-sources-number.is c.loop-number.invariant.none (sym none);
    }

pub loop-number-preserved-in_default : goal.loop-number-preserved-in_default
loop-number-preserved-in_default c =
    let source = c.index-sources-number.result in
    record {
      kept = c.loop-number.invariant.kept;
      none = one_more c.args.given.now c.args.line.now c.args.start c.args.sources.now c.loop-number.number source None None (omega arith) c.index-sources-number.is c.loop-number.invariant.none
          (unread c.args.given.now c.args.line.now c.args.start c.loop-number.number (grammar_in source) (rw c.after-bytes.ensures at c.in_default.ensures.prefix));
    }

pub loop-number-preserved : goal.loop-number-preserved
loop-number-preserved c =
    let source = c.index-sources-number.result in
    record {
      kept = c.loop-number.invariant.kept;
      none = one_more c.args.given.now c.args.line.now c.args.start c.args.sources.now c.loop-number.number source None None (omega arith) c.index-sources-number.is c.loop-number.invariant.none
          (by_read c.args.given.now c.args.line.now c.args.start c.loop-number.number (grammar_in source) c.in-Some.prefix false (rw c.after-bytes.ensures at c.in-Some.ensures.prefix) (sym c.if-not-is_read.true ∙ c.is_read.ensures));
    }

pub with_others-requires-clause-first : goal.with_others-requires-clause-first
with_others-requires-clause-first c =
    let source = c.index-sources-number.result in
    one_more c.args.given.now c.args.line.now c.args.start c.args.sources.now c.loop-number.number source None (Some c.candidate_with-one.result) (omega arith) c.index-sources-number.is c.loop-number.invariant.none
    (ap Some c.candidate_with-one.ensures
    ∙ made c.args.given.now c.args.line.now c.args.start c.loop-number.number (grammar_in source) c.in-Some.prefix c.of-date.result c.why-doubt.result (rw c.after-bytes.ensures at c.in-Some.ensures.prefix)
    (sym c.if-not-is_read.false ∙ c.is_read.ensures) c.of-date.ensures.is c.why-doubt.ensures)

pub returns-then-is_some-clause-is : goal.returns-then-is_some-clause-is
returns-then-is_some-clause-is c =
    let given = c.args.given.now in
    let line = c.args.line.now in
    let start = c.args.start in
    let sources = c.args.sources.now in
    let number = c.loop-number.number in
    let source = c.index-sources-number.result in
    let prefix = c.of-date.result.prefix in
    let one =
    made given line start number (grammar_in source) c.in-Some.prefix c.of-date.result c.why-doubt.result (rw c.after-bytes.ensures at c.in-Some.ensures.prefix) (sym c.if-not-is_read.false ∙ c.is_read.ensures) c.of-date.ensures.is c.why-doubt.ensures in
    let first = one_more given line start sources number source None (Some (candidate_with line start number prefix c.why-doubt.result)) (omega arith) c.index-sources-number.is c.loop-number.invariant.none one in
    let others = none_after given line start (map grammar_in sources) (number + 1) (length sources) (omega arith) (rw c.after-bytes.ensures at (c.others_may_read.ensures c.if-others_may_read.false)) in
    ap (λ (b : Bool). Some (if not b then There (found_at start number prefix) else Doubtful start)) (sym c.if-is_some.true ∙ c.is_some.ensures) ∙ ap (option_map (finding start)) (first ∙ sym others)

pub returns-in-loop-number-clause-is : goal.returns-in-loop-number-clause-is
returns-in-loop-number-clause-is c =
    let given = c.args.given.now in
    let line = c.args.line.now in
    let start = c.args.start in
    let sources = c.args.sources.now in
    let number = c.loop-number.number in
    let source = c.index-sources-number.result in
    let prefix = c.of-date.result.prefix in
    let one =
    made given line start number (grammar_in source) c.in-Some.prefix c.of-date.result c.why-doubt.result (rw c.after-bytes.ensures at c.in-Some.ensures.prefix) (sym c.if-not-is_read.false ∙ c.is_read.ensures) c.of-date.ensures.is c.why-doubt.ensures in
    let first = one_more given line start sources number source None (Some (candidate_with line start number prefix c.why-doubt.result)) (omega arith) c.index-sources-number.is c.loop-number.invariant.none one in
    let others = none_after given line start (map grammar_in sources) (number + 1) (length sources) (omega arith) (rw c.after-bytes.ensures at (c.others_may_read.ensures c.if-others_may_read.false)) in
    ap (λ (d : Found). Some (There d)) c.found_at.ensures
    ∙ ap (λ (b : Bool). Some (if not b then There (found_at start number prefix) else Doubtful start)) (sym c.if-is_some.false ∙ c.is_some.ensures) ∙ ap (option_map (finding start)) (first ∙ sym others)
