use Rattle.std.proofs.Common.{◌≡◌, ℕ, ◌+◌, ◌<◌, List, [], ◌∷◌, ◌++◌, length, take, drop, refl, sym, ap, ◌∙◌, arith, append-nil, append_assoc, take-append-drop, slice_set, rules}
use Rattle.std.proofs.lemmas.Bool.Decides.{nat_tests}
use Rattle.std.proofs.lemmas.List.{take_more_set, drop-set-lt, drop-drop}
use Rattle.instants_stream.specs.Lines.{lines}
use Rattle.instants_memory.proofs.FirstLine.{no_line_of, some_line}
use Rattle.instants_lines.specs.Going.{Going, below}
use Rattle.instants_lines.specs.LineDates.{dates_from, numbered}
use Rattle.instants_lines.specs.Opened.{begins_in}
use Rattle.instants_lines.specs.Writing.{going_of}
use Rattle.instants_lines.specs.declared.line_date.LineDate.{LineDate}
use Rattle.instants_lines_memory.proofs.DatesDue.{next_dated, none_dated}
use Rattle.instants_lines_memory.proofs.dates.dates_over.Goals as goal

pub loop-writer-init : goal.loop-writer-init
loop-writer-init c = record {
  within = omega arith;
  counted = omega arith;
  due = ap (λ (g : Going). dates_from g (lines c.args.input.now)) (sym c.writer-writer.ensures);
  after = refl;
}

pub returns-then-count-room-clause-longer : goal.returns-then-count-room-clause-longer
returns-then-count-room-clause-longer c =
    let some : 0 < length c.loop-writer.rest.now = grind (arith, nat_tests, c.loop-writer-test.ensures) in
    omega (arith, some_line c.loop-writer.rest.now some, c.loop-writer.invariant.counted, c.if-count-room.true, c.loop-writer.auto.room)

pub returns-clause-len : goal.returns-clause-len
returns-clause-len c =
    let none : length c.loop-writer.rest.now ≡ 0 = grind (arith, nat_tests, c.loop-writer-test.ensures) in
    let left = ap length (no_line_of c.loop-writer.rest.now none) in
    omega (arith, left, c.loop-writer.invariant.counted)

pub returns-clause-written : goal.returns-clause-written
returns-clause-written c =
    let room = c.loop-writer.room in
    let count = c.loop-writer.count in
    let none : length c.loop-writer.rest.now ≡ 0 = grind (arith, nat_tests, c.loop-writer-test.ensures) in
    let all = c.loop-writer.invariant.due ∙ ap (λ (l : List LineDate). take count room ++ l) (none_dated (going_of c.loop-writer.writer) c.loop-writer.rest.now (no_line_of c.loop-writer.rest.now none)) ∙ append-nil (take count room) in
    sym (take-append-drop count room) ∙ ap (λ (l : List LineDate). l ++ drop count room) (sym all)
    ∙ ap (λ (l : List LineDate). dates_from (begins_in c.args.asked.now c.args.zone) (lines c.args.input.now) ++ l) c.loop-writer.invariant.after

pub loop-writer-preserved : goal.loop-writer-preserved
loop-writer-preserved c =
    let room = c.loop-writer.room in
    let count = c.loop-writer.count in
    let entry = c.take_numbers.result in
    let first = c.first_line.ensures.lines in
    let tail = dates_from (below (going_of c.loop-writer.writer) c.first_line.result.0.now) (lines c.first_line.result.1.now) in
    let more : count < length room = omega (arith, c.loop-writer.invariant.within, c.if-count-room.false) in
    let fresh : take (count + 1) (slice_set room count entry) ≡ take count room ++ entry ∷ [] = take_more_set room count entry more in
    record {
      within = search rules;
      counted = omega (arith, c.loop-writer.invariant.counted, ap length first);
      due =
          c.loop-writer.invariant.due
          ∙ ap (λ (l : List LineDate). take count room ++ l) (next_dated (going_of c.loop-writer.writer) c.loop-writer.rest.now c.first_line.result.1.now c.first_line.result.0.now first ∙ ap (λ (one : LineDate). one ∷ tail) (sym c.take_numbers.ensures.date))
          ∙ sym (append_assoc (take count room) (entry ∷ []) tail)
          ∙ ap (λ (l : List LineDate). l ++ tail) (sym fresh)
          ∙ ap (λ (g : Going). take (count + 1) (slice_set room count entry) ++ dates_from g (lines c.first_line.result.1.now)) (sym c.take_numbers.ensures.next);
      after = drop-set-lt (count + 1) room count entry (omega arith) ∙ sym (drop-drop 1 count room) ∙ ap (drop 1) c.loop-writer.invariant.after ∙ drop-drop 1 count c.args.room.now;
    }
