use Rattle.instants_lines_memory.proofs.Wrapped.{dates_written}
use Rattle.instants_lines_memory.proofs.zoned_lines.ZonedLines.dates_over.Goals as goal

pub returns : goal.returns
returns c =
    let told = c.dates_over.ensures in
    dates_written c.args.self.now c.as_ref.result c.as_ref.ensures.value c.args.input.now c.dates_over.result c.args.room.now c.dates_over.new.room told.len told.written told.longer told.full
