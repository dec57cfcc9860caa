use Rattle.std.proofs.Common.{◌+◌, sym, ◌∙◌}
use Rattle.parsing_plan.proofs.SplitLemmas.{no_digit_past, no_digit_there}
use Rattle.parsing_plan.proofs.read.digits_at.Goals.{then-at-line-via-then-at-line, then-at-line-via-else-at-line+then-not-is_ascii_digit}
use Rattle.parsing_plan.proofs.read.digits_at.Goals as goal

pub returns-then-at-line-clause-ends : goal.returns-then-at-line-clause-ends
returns-then-at-line-clause-ends c = λ few.
    let line = c.args.line.now in
    let at = c.args.place + c.loop-count.count in
    elim c.then-at-line.branch [
      | then-at-line-via-then-at-line w ↦ no_digit_past line at w.if-at-line.true
      | then-at-line-via-else-at-line+then-not-is_ascii_digit w ↦ no_digit_there line at (sym w.is_ascii_digit.ensures.value ∙ w.if-not-is_ascii_digit.true)
    ]
