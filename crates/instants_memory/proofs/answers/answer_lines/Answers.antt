use Rattle.std.proofs.Common.{ℕ, List, map, refl, arith}
use Rattle.instants_stream.specs.Answers.{output}
use Rattle.instants_timeline.specs.Place.{answer_to}
use Rattle.instants_timeline.specs.Settings.{setting_of}
use Rattle.instants_memory.specs.OutputFor.{IsOutputFor}
use Rattle.instants_memory.proofs.Room.{few_lines, room_of}
use Rattle.instants_memory.proofs.answers.answer_lines.Goals as goal
use Rattle.instants_memory.proofs.answers.answer_lines.Goals.{In_ok-timeline}

-- the bytes that are due for the input
abbrev due : (c : In_ok-timeline) → List ℕ
due c = output (answer_to (setting_of c.in_ok-timeline.timeline)) c.in_ok-said.said.limit c.args.input.now

-- they are what the words ask for
is_due : (c : In_ok-timeline) → IsOutputFor (map (λ word. word.now) c.args.words.now) c.args.input.now (due c)
is_due c =
    let means = c.in_ok-timeline.ensures in
    record {
      setting = setting_of c.in_ok-timeline.timeline;
      limit = c.in_ok-said.said.limit;
      asks = record {
        said = c.in_ok-said.said;
        is_said = c.in_ok-said.ensures.ok;
        asks = record { sources = rw (← c.as_slice.ensures) means.sources; target = means.target; assumed = means.assumed };
        limit_is = refl;
      };
      is_output = refl;
    }

pub returns-in-Ok-clause-ok : goal.returns-in-Ok-clause-ok
returns-in-Ok-clause-ok c =
    let before = (goal.at.returns-in-Ok-clause-ok c).In_ok-timeline in
    (due before, is_due before, c.in-Ok.ensures.len, c.in-Ok.ensures.written)

pub returns-clause-write : goal.returns-clause-write
returns-clause-write c = λ e.
    let before = (goal.at.returns-clause-write c).In_ok-timeline in
    (due before, is_due before, c.in-Err.ensures.longer, c.in-Err.ensures.full)

pub returns-clause-line_room : goal.returns-clause-line_room
returns-clause-line_room c = λ enough e.
    let room = room_of (is_due (goal.at.returns-clause-line_room c).In_ok-timeline) in
    absurd (omega (arith, enough, c.in-Err.ensures.longer, room))

pub returns-clause-byte_room : goal.returns-clause-byte_room
returns-clause-byte_room c = λ enough e.
    let room = room_of (is_due (goal.at.returns-clause-byte_room c).In_ok-timeline) in
    let few = few_lines c.args.input.now in
    absurd (omega (arith, enough, c.in-Err.ensures.longer, room, few))
