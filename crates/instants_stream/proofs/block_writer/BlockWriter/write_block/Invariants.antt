use Rattle.std.proofs.Common.{◌≡◌, ◌-◌}
use Rattle.std.specs.Io.KnownBytes.{Keeps}
use Rattle.instants_stream.specs.Gathering.{held_by}
use Rattle.instants_stream.proofs.block_writer.BlockWriter.write_block.Given as goal

-- what is written is held below
abbrev pub invariant-loop-self : goal.invariant-loop-self
invariant-loop-self g l =
    let held = g.W.ByteWriter.held in
    record {
      held : Keeps (held_by held l.initial.self) (held_by held l.self);
      works : g.W.ByteWriter.failed l.self.inner ≡ g.W.ByteWriter.failed l.initial.self.inner;
      flushed : l.self.is_flushed ≡ l.initial.self.is_flushed;
    }

abbrev pub decreases-loop-self : goal.decreases-loop-self
decreases-loop-self g l = l.self.end - l.self.start
