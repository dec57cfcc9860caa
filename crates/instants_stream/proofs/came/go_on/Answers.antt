use Rattle.std.proofs.Common.{◌<◌, length, arith}
use Rattle.std.proofs.KnownBytes.{Appends-trans}
use Rattle.std.proofs.lemmas.Result.{err_from_is_err_and}
use Rattle.instants_stream.proofs.MoreCame.{goes_on, ends, begins_with}
use Rattle.instants_stream.proofs.Known.{AppendsPrefix-after, AppendsPrefix-more}
use Rattle.instants_stream.proofs.came.go_on.Goals as goal

pub returns-in_err-pass_on-clause-prefix : goal.returns-in_err-pass_on-clause-prefix
returns-in_err-pass_on-clause-prefix g c =
    let p = err_from_is_err_and c.from_residual.result c.from_residual.ensures.1 in
    let line = c.line_end-len.ensures in
    rw (p.1, c.if-not-is_begun.false) (λ limit.
    let more = begins_with g.S.WritesLines.State g.S.WritesLines.steps (g.S.WritesLines.state c.args.steps.now) c.args.bytes.now c.line_end-len.result line.before limit line.line_feed in
    rw more.1 (AppendsPrefix-more _ _ _ more.0 c.in_err-pass_on.ensures.2))

pub returns-then-len-bytes-clause-written : goal.returns-then-len-bytes-clause-written
returns-then-len-bytes-clause-written g c =
    let went_on = goes_on g.S.WritesLines.State g.S.WritesLines.steps (g.S.WritesLines.state c.args.steps.now) c.args.bytes.now c.line_end-len.result c.line_end-len.ensures.before (omega (arith, c.if-len-bytes.true)) in
    rw c.if-not-is_begun.false (_, c.in_ok-pass_on.ensures.0, went_on)

pub returns-in_err-end_line-clause-prefix : goal.returns-in_err-end_line-clause-prefix
returns-in_err-end_line-clause-prefix g c =
    let p = err_from_is_err_and c.from_residual-in_err-end_line.result c.from_residual-in_err-end_line.ensures.1 in
    let line = c.line_end-len.ensures in
    let within : c.line_end-len.result < length c.args.bytes.now = omega (arith, line.within, c.if-len-bytes.false) in
    let went_on = ends g.S.WritesLines.State g.S.WritesLines.steps (g.S.WritesLines.state c.args.steps.now) c.args.bytes.now c.line_end-len.result line.before within (line.line_feed within) in
    rw (p.1, c.if-not-is_begun.false) (λ limit. rw (went_on.said limit) (AppendsPrefix-more _ _ _ _ (AppendsPrefix-after _ _ _ _ _ c.in_ok-pass_on.ensures.0 c.in_err-end_line.ensures.prefix)))

pub returns-clause-written : goal.returns-clause-written
returns-clause-written g c =
    let line = c.line_end-len.ensures in
    let within : c.line_end-len.result < length c.args.bytes.now = omega (arith, line.within, c.if-len-bytes.false) in
    let went_on = ends g.S.WritesLines.State g.S.WritesLines.steps (g.S.WritesLines.state c.args.steps.now) c.args.bytes.now c.line_end-len.result line.before within (line.line_feed within) in
    rw c.if-not-is_begun.false (_, Appends-trans _ _ _ _ _ c.in_ok-pass_on.ensures.0 c.in_ok-end_line.ensures.written, went_on)
