use Rattle.std.proofs.Common.{◌≡◌, ◌≤◌, ◌++◌, length, take, drop}
use Rattle.std.specs.Prelude.{option_map}
use Rattle.instants_stream.specs.Lines.{lines}
use Rattle.instants_lines.specs.Below.{below_above, below_all, keyed_all}
use Rattle.instants_lines.specs.Opened.{begins_in}
use Rattle.instants_lines.specs.Writing.{going_of}
use Rattle.instants_lines_memory.proofs.keys.keys_over.Given as goal

-- what is due is what is written, and the texts of the lines of the rest
abbrev pub invariant-loop-label : goal.invariant-loop-label
invariant-loop-label l =
    let begins = below_above l.above (begins_in l.fn.asked l.zone) in
    record {
      within : l.end ≤ length l.room;
      due : keyed_all begins (lines l.input) ≡ take l.end l.room ++ keyed_all (going_of l.writer) (lines l.rest);
      below : below_all begins (lines l.input) ≡ below_all (going_of l.writer) (lines l.rest);
      label : (going_of l.writer).label ≡ option_map (λ text. text.now) l.label;
      after : drop l.end l.room ≡ drop l.end l.fn.room;
    }

abbrev pub decreases-loop-label : goal.decreases-loop-label
decreases-loop-label l = length l.rest
