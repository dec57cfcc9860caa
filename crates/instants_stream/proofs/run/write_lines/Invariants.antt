use Rattle.std.proofs.Common.{◌≡◌, ◌-◌, ◌≤◌, ◌<◌, false, length, take, drop}
use Rattle.instants_stream.proofs.Progress.{Progress}
use Rattle.instants_stream.proofs.run.write_lines.Given as goal

abbrev pub invariant-loop-limit : goal.invariant-loop-limit
invariant-loop-limit g l =
    let left = g.R.ByteReader.left in
    let held = g.W.ByteWriter.held in
    let state = g.S.WritesLines.state in
    let line = take (l.filled - l.start) (drop l.start l.buffer) in
    record {
      progress : Progress g.S.WritesLines.State g.S.WritesLines.steps (state l.fn.steps) (state l.steps) l.limit (left l.fn.reader) (left l.reader) (held l.fn.writer) (held l.writer) line l.is_begun;
      size : length l.buffer ≡ length l.fn.buffer;
      room : l.limit < length l.fn.buffer;
      ordered : l.start ≤ l.filled;
      within : l.filled < length l.fn.buffer;
      reader_works : g.R.ByteReader.failed l.reader ≡ false;
      writer_works : g.W.ByteWriter.failed l.writer ≡ false;
    }

abbrev pub decreases-loop-limit : goal.decreases-loop-limit
decreases-loop-limit g l = g.R.ByteReader.reads_left l.reader
