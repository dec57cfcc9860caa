use Rattle.std.proofs.Common.{◌≡◌, ◌+◌, ◌≤◌, ◌++◌, length, map, take, drop}
use Rattle.instants_stream.specs.Lines.{lines}
use Rattle.instants_timeline.specs.Settings.{setting_of}
use Rattle.instants_memory.specs.Numbers.{entry_of}
use Rattle.instants_memory.proofs.moments.moments_over.Given as goal

-- the entries that are due are those that are written, and those of the lines of the rest
abbrev pub invariant-loop-rest : goal.invariant-loop-rest
invariant-loop-rest l =
    let entry = entry_of (setting_of l.timeline) l.limit in
    record {
      within : l.count ≤ length l.room;
      counted : length (lines l.input) ≡ l.count + length (lines l.rest);
      due : map entry (lines l.input) ≡ take l.count l.room ++ map entry (lines l.rest);
      after : drop l.count l.room ≡ drop l.count l.fn.room;
    }

abbrev pub decreases-loop-rest : goal.decreases-loop-rest
decreases-loop-rest l = length l.rest
