use Rattle.std.proofs.Common.{◌≡◌, ℕ, ◌+◌, ◌<◌, List, [], ◌∷◌, ◌++◌, length, take, drop, refl, sym, ap, ◌∙◌, subst, arith, append-nil}
use Rattle.std.specs.Prelude.{option_map}
use Rattle.std.proofs.lemmas.Bool.Decides.{nat_tests}
use Rattle.base.specs.Bytes.{line_feed}
use Rattle.instants_stream.specs.Lines.{lines}
use Rattle.instants_stream.proofs.Pieces.{more_due, is_longer, is_cut, all_written, after_later}
use Rattle.instants_memory.proofs.FirstLine.{no_line_of}
use Rattle.instants_lines.specs.Below.{below_above, below_all, keyed_all}
use Rattle.instants_lines.specs.Going.{Going, below, label_prefix}
use Rattle.instants_lines.specs.Opened.{begins_in}
use Rattle.instants_lines.specs.Writing.{going_of}
use Rattle.instants_lines_memory.proofs.KeysDue.{keys_are, same_label, next_below, next_keyed, none_keyed, none_below}
use Rattle.instants_lines_memory.proofs.keys.keys_over.Goals as goal
use Rattle.instants_lines_memory.proofs.keys.keys_over.Goals.{After-put_keyed}

pub loop-label-init : goal.loop-label-init
loop-label-init c =
    let begins : Going = below_above c.args.above.now (begins_in c.args.asked.now c.args.zone) in
    let going : going_of c.begin_below.new.self ≡ begins = c.begin_below.ensures ∙ ap (below_above c.args.above.now) c.writer-writer.ensures in
    record {
      within = omega arith;
      due = ap (λ (g : Going). keyed_all g (lines c.args.input.now)) (sym going);
      below = ap (λ (g : Going). below_all g (lines c.args.input.now)) (sym going);
      label = ap (λ (g : Going). g.label) going ∙ same_label (begins_in c.args.asked.now c.args.zone) c.args.above.now ∙ sym c.label-label.ensures;
      after = refl;
    }

module _ (c : After-put_keyed) where
  abbrev text : List ℕ
  text = c.take_tabbed-key.result ++ (label_prefix (option_map (λ t. t.now) c.label-label.result) ++ (c.first_line.result.0.now ++ line_feed ∷ []))

  abbrev more : List ℕ
  more = keyed_all (below (going_of c.loop-label.writer) c.first_line.result.0.now) (lines c.first_line.result.1.now)

  abbrev all : List ℕ
  all = keyed_all (below_above c.args.above.now (begins_in c.args.asked.now c.args.zone)) (lines c.args.input.now)

  -- what is due, once the key of a line is known: what is written, the line after it, and the lines below
  line_due : all ≡ take c.loop-label.end c.loop-label.room ++ (text ++ more)
  line_due = c.loop-label.invariant.due ∙ ap (λ (l : List ℕ). take c.loop-label.end c.loop-label.room ++ l)
      (next_keyed (going_of c.loop-label.writer) c.loop-label.rest.now c.first_line.result.1.now c.first_line.result.0.now c.first_line.ensures.lines c.take_tabbed-key.result (label_prefix (option_map (λ t. t.now) c.label-label.result)) c.take_tabbed-key.ensures.key (ap label_prefix c.loop-label.invariant.label))

pub loop-label-preserved : goal.loop-label-preserved
loop-label-preserved c =
    let at = (goal.at.loop-label-preserved c).After-put_keyed in
    let put = c.in-Ok.ensures.put in
    let going = c.take_tabbed-key.ensures.next in
    let old = c.loop-label.room in
    record {
      within = omega (arith, put.within, put.size);
      due = more_due (all at) old (text at) (more at) c.loop-label.end c.loop-label.invariant.within (line_due at) c.in-Ok.next c.put_keyed.new.room put.prefix
          ∙ ap (λ (g : Going). take c.in-Ok.next c.put_keyed.new.room ++ keyed_all g (lines c.first_line.result.1.now)) (sym going);
      below = c.loop-label.invariant.below ∙ next_below (going_of c.loop-label.writer) c.loop-label.rest.now c.first_line.result.1.now c.first_line.result.0.now c.first_line.ensures.lines
          ∙ ap (λ (g : Going). below_all g (lines c.first_line.result.1.now)) (sym going);
      label = ap (λ (g : Going). g.label) going ∙ c.loop-label.invariant.label;
      after = put.rest ∙ ap (λ (n : ℕ). drop n old) put.end_is ∙ after_later old c.args.room.now c.loop-label.end (length (text at)) c.loop-label.invariant.after
          ∙ ap (λ (n : ℕ). drop n c.args.room.now) (sym put.end_is);
    }

pub returns-in_default-clause-longer : goal.returns-in_default-clause-longer
returns-in_default-clause-longer c =
    let at = (goal.at.returns-in_default-clause-longer c).After-put_keyed in
    rw (keys_are (begins_in c.args.asked.now c.args.zone) c.args.above.now c.args.input.now c.requires.keys, ← c.loop-label.auto.room)
    (is_longer (all at) c.loop-label.room (text at) (more at) c.loop-label.end c.loop-label.invariant.within (line_due at) c.in_default.ensures.full.less)

pub returns-in_default-clause-full : goal.returns-in_default-clause-full
returns-in_default-clause-full c =
    let at = (goal.at.returns-in_default-clause-full c).After-put_keyed in
    rw (keys_are (begins_in c.args.asked.now c.args.zone) c.args.above.now c.args.input.now c.requires.keys, ← c.loop-label.auto.room)
    (c.in_default.ensures.full.full ∙ is_cut (all at) c.loop-label.room (text at) (more at) c.loop-label.end c.loop-label.invariant.within (line_due at) c.in_default.ensures.full.less)

pub returns-clause-len : goal.returns-clause-len
returns-clause-len c =
    let none : length c.loop-label.rest.now ≡ 0 = grind (arith, nat_tests, c.loop-label-test.ensures) in
    let is_all = c.loop-label.invariant.due ∙ ap (λ (l : List ℕ). take c.loop-label.end c.loop-label.room ++ l) (none_keyed (going_of c.loop-label.writer) c.loop-label.rest.now (no_line_of c.loop-label.rest.now none)) ∙ append-nil (take c.loop-label.end c.loop-label.room) in
    rw (keys_are (begins_in c.args.asked.now c.args.zone) c.args.above.now c.args.input.now c.requires.keys) (all_written _ c.args.room.now c.loop-label.room c.loop-label.end c.loop-label.invariant.within is_all c.loop-label.invariant.after).0

pub returns-clause-written : goal.returns-clause-written
returns-clause-written c =
    let none : length c.loop-label.rest.now ≡ 0 = grind (arith, nat_tests, c.loop-label-test.ensures) in
    let is_all = c.loop-label.invariant.due ∙ ap (λ (l : List ℕ). take c.loop-label.end c.loop-label.room ++ l) (none_keyed (going_of c.loop-label.writer) c.loop-label.rest.now (no_line_of c.loop-label.rest.now none)) ∙ append-nil (take c.loop-label.end c.loop-label.room) in
    rw (keys_are (begins_in c.args.asked.now c.args.zone) c.args.above.now c.args.input.now c.requires.keys) (all_written _ c.args.room.now c.loop-label.room c.loop-label.end c.loop-label.invariant.within is_all c.loop-label.invariant.after).1

pub returns-clause-above : goal.returns-clause-above
returns-clause-above c =
    let none : length c.loop-label.rest.now ≡ 0 = grind (arith, nat_tests, c.loop-label-test.ensures) in
    let same = c.loop-label.invariant.below ∙ none_below (going_of c.loop-label.writer) c.loop-label.rest.now (no_line_of c.loop-label.rest.now none) in
    record {
      some = c.above.ensures.some;
      key = c.above.ensures.key ∙ ap (λ (g : Going). g.key) (sym same);
      indent = c.above.ensures.indent ∙ ap (λ (g : Going). g.indent) (sym same);
    }
