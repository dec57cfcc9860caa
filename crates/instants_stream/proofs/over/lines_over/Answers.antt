use Rattle.std.proofs.Common.{◌≡◌, ℕ, ◌+◌, ◌-◌, ◌<◌, List, [], ◌++◌, length, take, drop, ◌∙◌, subst, arith, length-drop}
use Rattle.std.proofs.lemmas.List.{take_rest}
use Rattle.instants_stream.specs.Lines.{HasNoLineFeed}
use Rattle.instants_stream.specs.Answers.{answered, output}
use Rattle.instants_stream.proofs.NextAnswer.{due_next, due_last, due_none}
use Rattle.instants_stream.proofs.Pieces.{more_due, is_longer, is_cut, all_written, after_later, last_written}
use Rattle.instants_stream.proofs.over.lines_over.Goals as goal
use Rattle.instants_stream.proofs.over.lines_over.Goals.{After-fill_answered-count, After-fill_answered-count-then-start-input}

-- what is due, once the answer to a line is known: what is written, that answer, and the answers to the bytes after the line
line_due : (g : _) (c : After-fill_answered-count g) → output (g.A.AnswersLines.answer c.args.answers.now) c.args.limit c.args.input.now
    ≡ take c.loop-len.end c.loop-len.room ++ ((take c.fill_answered-count.result c.fill_answered-count.new.room) ++ output (g.A.AnswersLines.answer c.args.answers.now) c.args.limit (drop (c.loop-len.start + (c.in-Some.len + 1)) c.args.input.now))
line_due g c =
    let answer = g.A.AnswersLines.answer c.args.answers.now in
    let input = c.args.input.now in
    let start = c.loop-len.start in
    let len = c.in-Some.len in
    let whole = take_rest input start in
    let within : len < length (drop start input) = rw whole at c.in-Some.ensures.within in
    let line_feed = rw whole at c.in-Some.ensures.line_feed in
    let free : HasNoLineFeed (take len (drop start input)) = subst (λ (l : List ℕ). HasNoLineFeed (take len l)) whole c.in-Some.ensures.before in
    let same : start + len - start ≡ len = omega arith in
    let is : (take c.fill_answered-count.result c.fill_answered-count.new.room) ≡ answered answer c.args.limit (take len (drop start input)) = rw same at c.fill_answered-count.ensures.bytes in
    due_next answer c.args.limit input start (take c.loop-len.end c.loop-len.room) (take c.fill_answered-count.result c.fill_answered-count.new.room) c.loop-len.invariant.due len free within line_feed is

-- the same of a last line
last_due : (g : _) (c : After-fill_answered-count-then-start-input g) → output (g.A.AnswersLines.answer c.args.answers.now) c.args.limit c.args.input.now
    ≡ take c.loop-len.end c.loop-len.room ++ ((take c.fill_answered-count-then-start-input.result c.fill_answered-count-then-start-input.new.room) ++ [])
last_due g c =
    let answer = g.A.AnswersLines.answer c.args.answers.now in
    let input = c.args.input.now in
    let start = c.loop-len.start in
    let word = (take c.fill_answered-count-then-start-input.result c.fill_answered-count-then-start-input.new.room) in
    let whole = take_rest input start in
    let free : HasNoLineFeed (drop start input) = subst HasNoLineFeed whole c.in_default.ensures.none in
    let some : 0 < length (drop start input) = simp length-drop (omega (arith, c.if-start-input.true)) in
    let is : word ≡ answered answer c.args.limit (drop start input) = rw whole at c.fill_answered-count-then-start-input.ensures.bytes in
    due_last answer c.args.limit input start (take c.loop-len.end c.loop-len.room) word c.loop-len.invariant.due free some is

pub loop-len-preserved : goal.loop-len-preserved
loop-len-preserved g c =
    let i = c.loop-len.invariant in
    let answer = g.A.AnswersLines.answer c.args.answers.now in
    let input = c.args.input.now in
    let start = c.loop-len.start in
    let len = c.in-Some.len in
    let old = c.loop-len.room in
    let word = (take c.fill_answered-count.result c.fill_answered-count.new.room) in
    let due = line_due g (goal.at.loop-len-preserved g c).After-fill_answered-count in
    let within : len < length (drop start input) = rw (take_rest input start) at c.in-Some.ensures.within in
    let put = c.in-Ok.ensures in
    record {
      start = let h = simp length-drop at within in omega arith;
      within = omega (arith, put.within, c.put.auto.room);
      due = more_due (output answer c.args.limit input) old word (output answer c.args.limit (drop (start + (len + 1)) input)) c.loop-len.end i.within due c.in-Ok.next c.put.new.room put.prefix;
      after = put.after ∙ rw put.end (after_later old c.args.room.now c.loop-len.end (length word) i.after);
    }

pub returns-in_default-put-clause-longer : goal.returns-in_default-put-clause-longer
returns-in_default-put-clause-longer g c =
    let due = line_due g (goal.at.returns-in_default-put-clause-longer g c).After-fill_answered-count in
    rw (← c.loop-len.auto.room) (is_longer _ c.loop-len.room (take c.fill_answered-count.result c.fill_answered-count.new.room) _ c.loop-len.end c.loop-len.invariant.within due c.in_default-put.ensures.less)

pub returns-in_default-put-clause-full : goal.returns-in_default-put-clause-full
returns-in_default-put-clause-full g c =
    let due = line_due g (goal.at.returns-in_default-put-clause-full g c).After-fill_answered-count in
    c.in_default-put.ensures.full ∙ rw (← c.loop-len.auto.room) (is_cut _ c.loop-len.room (take c.fill_answered-count.result c.fill_answered-count.new.room) _ c.loop-len.end c.loop-len.invariant.within due c.in_default-put.ensures.less)

pub returns-in_default-put-2-clause-longer : goal.returns-in_default-put-2-clause-longer
returns-in_default-put-2-clause-longer g c =
    let due = last_due g (goal.at.returns-in_default-put-2-clause-longer g c).After-fill_answered-count-then-start-input in
    rw (← c.loop-len.auto.room) (is_longer _ c.loop-len.room (take c.fill_answered-count-then-start-input.result c.fill_answered-count-then-start-input.new.room) [] c.loop-len.end c.loop-len.invariant.within due c.in_default-put-2.ensures.less)

pub returns-in_default-put-2-clause-full : goal.returns-in_default-put-2-clause-full
returns-in_default-put-2-clause-full g c =
    let due = last_due g (goal.at.returns-in_default-put-2-clause-full g c).After-fill_answered-count-then-start-input in
    c.in_default-put-2.ensures.full ∙ rw (← c.loop-len.auto.room) (is_cut _ c.loop-len.room (take c.fill_answered-count-then-start-input.result c.fill_answered-count-then-start-input.new.room) [] c.loop-len.end c.loop-len.invariant.within due c.in_default-put-2.ensures.less)

pub returns-in-Ok-put-clause-len : goal.returns-in-Ok-put-clause-len
returns-in-Ok-put-clause-len g c =
    let i = c.loop-len.invariant in
    let put = c.in-Ok-put.ensures in
    let due = last_due g (goal.at.returns-in-Ok-put-clause-len g c).After-fill_answered-count-then-start-input in
    (last_written _ c.loop-len.room (take c.fill_answered-count-then-start-input.result c.fill_answered-count-then-start-input.new.room) c.args.room.now c.put-then-start-input.new.room c.loop-len.end c.in-Ok-put.next i.within due put.prefix put.end put.after i.after (omega (arith, put.within, c.put-then-start-input.auto.room))).0

pub returns-in-Ok-put-clause-written : goal.returns-in-Ok-put-clause-written
returns-in-Ok-put-clause-written g c =
    let i = c.loop-len.invariant in
    let put = c.in-Ok-put.ensures in
    let due = last_due g (goal.at.returns-in-Ok-put-clause-written g c).After-fill_answered-count-then-start-input in
    (last_written _ c.loop-len.room (take c.fill_answered-count-then-start-input.result c.fill_answered-count-then-start-input.new.room) c.args.room.now c.put-then-start-input.new.room c.loop-len.end c.in-Ok-put.next i.within due put.prefix put.end put.after i.after (omega (arith, put.within, c.put-then-start-input.auto.room))).1

pub returns-else-start-input-clause-len : goal.returns-else-start-input-clause-len
returns-else-start-input-clause-len g c =
    let i = c.loop-len.invariant in
    let is_all = due_none (g.A.AnswersLines.answer c.args.answers.now) c.args.limit c.args.input.now c.loop-len.start (take c.loop-len.end c.loop-len.room) [] i.due (omega (arith, c.if-start-input.false)) in
    (all_written _ c.args.room.now c.loop-len.room c.loop-len.end i.within is_all i.after).0

pub returns-else-start-input-clause-written : goal.returns-else-start-input-clause-written
returns-else-start-input-clause-written g c =
    let i = c.loop-len.invariant in
    let is_all = due_none (g.A.AnswersLines.answer c.args.answers.now) c.args.limit c.args.input.now c.loop-len.start (take c.loop-len.end c.loop-len.room) [] i.due (omega (arith, c.if-start-input.false)) in
    (all_written _ c.args.room.now c.loop-len.room c.loop-len.end i.within is_all i.after).1
