use Rattle.std.proofs.Common.{arith}
use Rattle.std.proofs.lemmas.Result.{on_ok_weaker}
use Rattle.instants_stream.specs.Wrote.{Wrote}
use Rattle.instants_stream.proofs.Known.{AppendsPrefix-more, wrote_err, wrote_after}
use Rattle.instants_stream.proofs.Written.{line_said-longer, line_next-longer, line_said-short, line_next-short}
use Rattle.instants_stream.proofs.came.write_any.Goals as goal

pub returns-in_err-open_line-clause-wrote : goal.returns-in_err-open_line-clause-wrote
returns-in_err-open_line-clause-wrote g c =
    let wrote = c.in_err-open_line.ensures.wrote in
    rw (line_said-longer g.S.WritesLines.State g.S.WritesLines.steps c.args.limit (g.S.WritesLines.state c.args.steps.now) c.args.line.now (omega (arith, c.if-line-limit.true)))
    (wrote_err g.W.ByteWriter c.args.writer.now c.args.writer.now c.open_line.new.writer _ _ _ c.from_residual.ensures.1
    (AppendsPrefix-more _ _ _ _ wrote.2) wrote.3)

pub returns-then-line-limit-clause-wrote : goal.returns-then-line-limit-clause-wrote
returns-then-line-limit-clause-wrote g c =
    let wrote = c.in_ok-open_line.ensures.wrote in
    let end : Wrote g.W.ByteWriter c.open_line.new.writer c.end_line.new.writer c.end_line.result (g.S.WritesLines.steps.ended (g.S.WritesLines.state c.open_line.new.steps)) =
    (c.end_line.ensures.written, c.end_line.ensures.ok, c.end_line.ensures.prefix, c.end_line.ensures.err) in
    rw (line_said-longer g.S.WritesLines.State g.S.WritesLines.steps c.args.limit (g.S.WritesLines.state c.args.steps.now) c.args.line.now (omega (arith, c.if-line-limit.true)))
    (wrote_after g.W.ByteWriter c.args.writer.now c.open_line.new.writer c.end_line.new.writer _ _ _ wrote.0 wrote.1 (rw c.in_ok-open_line.ensures.state at end))

pub returns-then-line-limit-clause-state : goal.returns-then-line-limit-clause-state
returns-then-line-limit-clause-state g c =
    on_ok_weaker c.end_line.result (λ h. rw (line_next-longer g.S.WritesLines.State g.S.WritesLines.steps c.args.limit (g.S.WritesLines.state c.args.steps.now) c.args.line.now (omega (arith, c.if-line-limit.true))) c.in_ok-open_line.ensures.state) c.end_line.ensures.written

pub returns-clause-wrote : goal.returns-clause-wrote
returns-clause-wrote g c =
    let wrote = c.write_line.ensures in
    rw (line_said-short g.S.WritesLines.State g.S.WritesLines.steps c.args.limit (g.S.WritesLines.state c.args.steps.now) c.args.line.now (omega (arith, c.if-line-limit.false))) (wrote.written, wrote.ok, wrote.prefix, wrote.err)

pub returns-clause-state : goal.returns-clause-state
returns-clause-state g c =
    rw (line_next-short g.S.WritesLines.State g.S.WritesLines.steps c.args.limit (g.S.WritesLines.state c.args.steps.now) c.args.line.now (omega (arith, c.if-line-limit.false))) c.write_line.ensures.next
