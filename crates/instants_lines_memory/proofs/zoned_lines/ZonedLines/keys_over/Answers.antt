use Rattle.instants_lines_memory.proofs.Wrapped.{keys_written}
use Rattle.instants_lines_memory.proofs.zoned_lines.ZonedLines.keys_over.Goals as goal

pub returns : goal.returns
returns c =
    let told = c.keys_over.ensures in
    keys_written c.args.self.now c.as_ref.result c.as_ref.ensures.value c.args.input.now c.keys_over.result c.args.above.now c.keys_over.new.above c.args.room.now c.keys_over.new.room told.len told.written told.above told.longer told.full told.stays
