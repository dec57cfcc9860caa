use Rattle.std.proofs.Common.{◌+◌, [], ◌∙◌, refl}
use Rattle.std.proofs.lemmas.List.{take_rest}
use Rattle.instants_guess.proofs.FirstLine.{lines_none, only_line, first_and_others}
use Rattle.instants_guess.proofs.line.first_line.Goals as goal

pub returns-in-Some-clause-lines : goal.returns-in-Some-clause-lines
returns-in-Some-clause-lines c =
    let text = c.args.text.now in
    let len = c.in-Some.len in
    rw (take_rest text (len + 1)) (first_and_others text len c.in-Some.ensures.within c.in-Some.ensures.before c.in-Some.ensures.line_feed)

pub returns-in-None-clause-lines : goal.returns-in-None-clause-lines
returns-in-None-clause-lines c =
    let text = c.args.text.now in
    only_line text c.requires c.in-None.ensures.none ∙ rw (lines_none [] refl) refl
