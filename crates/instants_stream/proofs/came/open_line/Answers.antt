use Rattle.std.proofs.Common.{◌+◌}
use Rattle.std.proofs.lemmas.List.{take_rest}
use Rattle.std.proofs.lemmas.Result.{on_ok_weaker}
use Rattle.instants_stream.proofs.Known.{AppendsPrefix-more, wrote_err, wrote_after}
use Rattle.instants_stream.specs.Steps.{opened, state_within}
use Rattle.instants_stream.proofs.came.open_line.Goals as goal

pub returns-in_err-begin_line-clause-wrote : goal.returns-in_err-begin_line-clause-wrote
unfolding opened
returns-in_err-begin_line-clause-wrote g c =
    wrote_err g.W.ByteWriter c.args.writer.now c.args.writer.now c.begin_line.new.writer _ _ _ c.from_residual.ensures.1
    (AppendsPrefix-more _ _ _ _ c.in_err-begin_line.ensures.prefix) c.in_err-begin_line.ensures.err

pub returns-clause-wrote : goal.returns-clause-wrote
unfolding opened state_within
returns-clause-wrote g c =
    wrote_after g.W.ByteWriter c.args.writer.now c.begin_line.new.writer c.pass_on.new.writer _ _ _ c.in_ok-begin_line.ensures.written c.in_ok-begin_line.ensures.ok (rw (c.in_ok-begin_line.ensures.within, take_rest c.args.bytes.now (c.args.limit + 1)) at c.pass_on.ensures)

pub returns-clause-state : goal.returns-clause-state
unfolding state_within
returns-clause-state g c = on_ok_weaker c.pass_on.result (λ h. c.in_ok-begin_line.ensures.within) c.pass_on.ensures.0
