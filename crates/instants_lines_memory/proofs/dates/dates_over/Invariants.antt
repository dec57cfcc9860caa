use Rattle.std.proofs.Common.{◌≡◌, ◌+◌, ◌≤◌, ◌++◌, length, take, drop}
use Rattle.instants_stream.specs.Lines.{lines}
use Rattle.instants_lines.specs.LineDates.{dates_from}
use Rattle.instants_lines.specs.Opened.{begins_in}
use Rattle.instants_lines.specs.Writing.{going_of}
use Rattle.instants_lines_memory.proofs.dates.dates_over.Given as goal

-- the dates that are due are those that are written, and those of the lines of the rest
abbrev pub invariant-loop-writer : goal.invariant-loop-writer
invariant-loop-writer l =
    let begins = begins_in l.fn.asked l.zone in
    record {
      within : l.count ≤ length l.room;
      counted : length (lines l.input) ≡ l.count + length (lines l.rest);
      due : dates_from begins (lines l.input) ≡ take l.count l.room ++ dates_from (going_of l.writer) (lines l.rest);
      after : drop l.count l.room ≡ drop l.count l.fn.room;
    }

abbrev pub decreases-loop-writer : goal.decreases-loop-writer
decreases-loop-writer l = length l.rest
