use Rattle.instants_stream.specs.Known.{StaysOrUnknown}
use Rattle.instants_stream.proofs.Gathering.{done_below, on_any_err}
use Rattle.instants_stream.proofs.block_writer.BlockWriterByteWriter.flush.Goals as goal

pub returns-in_err-flush-clause-kept : goal.returns-in_err-flush-clause-kept
returns-in_err-flush-clause-kept g c =
    let wrote = c.in_ok-write_block.ensures in
    on_any_err c.from_residual-in_err-flush.result (done_below StaysOrUnknown (λ _. tt) _ _ _ c.write_block.new.self.block.items c.write_block.new.self.start _ wrote.held wrote.empty c.in_err-flush.ensures.kept)
