use Rattle.std.proofs.Common.{◌≡◌, ◌-◌, ◌<◌, ◌≤◌, [], length, take, drop}
use Rattle.std.specs.Prelude.{slice_index}
use Rattle.std.specs.Io.KnownBytes.{Appends}
use Rattle.instants_stream.specs.Lines.{HasNoLineFeed, whole_lines, last_part}
use Rattle.instants_stream.specs.Steps.{written, after}
use Rattle.instants_stream.proofs.came.write_whole_lines.Given as goal

-- the lines before the rest are done, and the rest's first line is found
abbrev pub invariant-loop : goal.invariant-loop
invariant-loop g l =
    let held = g.W.ByteWriter.held in
    let steps = g.S.WritesLines.steps in
    let state = g.S.WritesLines.state in
    let start = length l.bytes - length l.rest in
    record {
      within : length l.rest ≤ length l.bytes;
      rest_is : l.rest ≡ drop start l.bytes;
      ended : last_part (take start l.bytes) ≡ [];
      written : Appends (held l.fn.writer) (held l.writer) (written steps l.limit (state l.fn.steps) (whole_lines (take start l.bytes)));
      stands : state l.steps ≡ after steps l.limit (state l.fn.steps) (whole_lines (take start l.bytes));
      inside : l.len < length l.rest;
      before : HasNoLineFeed (take l.len l.rest);
      line_feed : slice_index l.rest l.len ≡ 10;
      works : g.W.ByteWriter.failed l.writer ≡ g.W.ByteWriter.failed l.fn.writer;
    }

abbrev pub decreases-loop : goal.decreases-loop
decreases-loop g l = length l.rest
