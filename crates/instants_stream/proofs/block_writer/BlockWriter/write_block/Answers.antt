use Rattle.std.proofs.Common.{◌∙◌, ◌≤◌, arith}
use Rattle.std.proofs.KnownBytes.{Keeps-trans}
use Rattle.instants_stream.proofs.Gathering.{gathered-moved}
use Rattle.instants_stream.proofs.block_writer.BlockWriter.write_block.Goals as goal

pub loop-self-preserved : goal.loop-self-preserved
loop-self-preserved g c =
    let held = g.W.ByteWriter.held in
    let i = c.loop-self.invariant in
    let self = c.loop-self.self in
    let ordered : self.start ≤ self.end = omega arith in
    let moved = gathered-moved (held self.inner) (held c.write.new.self) self.block.items self.start self.end c.in_ok-count.count ordered (rw c.deref.ensures.value at c.in_ok-count.ensures.moved) in record {
      held = Keeps-trans _ _ _ i.held moved;
      works = c.in_ok-count.ensures.ok ∙ i.works;
      flushed = i.flushed;
    }
