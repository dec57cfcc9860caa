use Rattle.std.proofs.Common.{[], append-nil, sym}
use Rattle.std.proofs.KnownBytes.{Appends-kept}
use Rattle.instants_stream.proofs.Gathering.{on_any_err}
use Rattle.instants_stream.proofs.Known.{AppendsPrefix-stays}
use Rattle.instants_guess.proofs.program.write_flushed.Goals as goal

pub returns-clause-written : goal.returns-clause-written
returns-clause-written g c = Appends-kept _ _ _ _ c.in_ok-write_all.ensures.written c.in_ok-flush.ensures.moved

pub returns-in_err-flush-clause-prefix : goal.returns-in_err-flush-clause-prefix
returns-in_err-flush-clause-prefix g c =
    on_any_err c.from_residual-in_err-flush.result (AppendsPrefix-stays _ _ _ c.args.text.now [] c.args.text.now (sym (append-nil c.args.text.now)) c.in_ok-write_all.ensures.written c.in_err-flush.ensures.kept)
