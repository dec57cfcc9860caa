use Rattle.std.proofs.Common.{sym, ◌∙◌, arith}
use Rattle.std.proofs.lemmas.Bool.{ltb-true, not-true}
use Rattle.instants_sources.proofs.RuledOut.{part_due, part_due_of_nothing}
use Rattle.instants_sources.proofs.ruled_out.begins_no_part.Goals.{then-first-gt57, else-first-gt57}
use Rattle.instants_sources.proofs.ruled_out.begins_no_part.Goals as goal

pub returns-then-first-ne84 : goal.returns-then-first-ne84
returns-then-first-ne84 c = λ e r.
    elim c.if-first-gt57.branch [
      | then-first-gt57 w ↦ part_due c.args.line.now r c.in-len1-up.len_at_least w.if-first-gt57.true (not-true _ (sym w.value-is ∙ c.if-first-ne84.true)) (not-true _ e)
      | else-first-gt57 w ↦ absurd (omega (arith, w.if-first-gt57.false, ltb-true 57 _ (sym w.value-is ∙ c.if-first-ne84.true)))
    ]

pub returns-in-empty : goal.returns-in-empty
returns-in-empty c = λ e r. part_due_of_nothing c.args.line.now r c.in-empty.len_below
