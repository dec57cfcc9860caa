use Rattle.std.proofs.Common.{◌≡◌, ◌-◌, ◌≤◌, ◌++◌, length, take, drop}
use Rattle.instants_stream.specs.Answers.{output}
use Rattle.instants_stream.proofs.over.lines_over.Given as goal

-- what is due is what is written, and the answers to the bytes from the start on
abbrev pub invariant-loop-len : goal.invariant-loop-len
invariant-loop-len g l =
    let answer = g.A.AnswersLines.answer l.answers in
    record {
      start : l.start ≤ length l.input;
      within : l.end ≤ length l.room;
      due : output answer l.limit l.input ≡ take l.end l.room ++ output answer l.limit (drop l.start l.input);
      after : drop l.end l.room ≡ drop l.end l.fn.room;
    }

abbrev pub decreases-loop-len : goal.decreases-loop-len
decreases-loop-len g l = length l.input - l.start
