use Rattle.std.proofs.Common.{◌≡◌, ◌<◌, ◌++◌, length, map, take, drop, sym, ap, ◌∙◌, arith, append-nil, take-append-drop}
use Rattle.std.proofs.lemmas.Bool.Decides.{nat_tests}
use Rattle.instants_stream.specs.Lines.{lines}
use Rattle.instants_timeline.specs.Settings.{setting_of}
use Rattle.instants_memory.specs.Numbers.{entry_of}
use Rattle.instants_memory.proofs.FirstLine.{no_line_of, some_line}
use Rattle.instants_memory.proofs.moments.moments_over.Goals as goal

pub returns-then-count-room-clause-longer : goal.returns-then-count-room-clause-longer
returns-then-count-room-clause-longer c =
    let some : 0 < length c.loop-rest.rest.now = grind (arith, nat_tests, c.loop-rest-test.ensures) in
    omega (arith, some_line c.loop-rest.rest.now some, c.loop-rest.invariant.counted, c.if-count-room.true, c.loop-rest.auto.room)

pub returns-clause-len : goal.returns-clause-len
returns-clause-len c =
    let none : length c.loop-rest.rest.now ≡ 0 = grind (arith, nat_tests, c.loop-rest-test.ensures) in
    let left = ap length (no_line_of c.loop-rest.rest.now none) in
    omega (arith, left, c.loop-rest.invariant.counted)

pub returns-clause-written : goal.returns-clause-written
returns-clause-written c =
    let entry = entry_of (setting_of c.args.timeline.now) c.args.limit in
    let room = c.loop-rest.room in
    let count = c.loop-rest.count in
    let none : length c.loop-rest.rest.now ≡ 0 = grind (arith, nat_tests, c.loop-rest-test.ensures) in
    let all = c.loop-rest.invariant.due ∙ ap (λ l. take count room ++ map entry l) (no_line_of c.loop-rest.rest.now none) ∙ append-nil (take count room) in
    sym (take-append-drop count room) ∙ ap (λ l. l ++ drop count room) (sym all) ∙ ap (λ l. map entry (lines c.args.input.now) ++ l) c.loop-rest.invariant.after
