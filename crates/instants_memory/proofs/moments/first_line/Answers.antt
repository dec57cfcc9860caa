use Rattle.std.proofs.Common.{◌+◌, ◌∷◌, ap, ◌∙◌, sym, take}
use Rattle.std.proofs.lemmas.List.{take_rest}
use Rattle.instants_stream.specs.Lines.{lines}
use Rattle.instants_stream.proofs.NextAnswer.{no_line, last_line, next_line}
use Rattle.instants_memory.proofs.moments.first_line.Goals as goal

pub returns-in-Some-clause-lines : goal.returns-in-Some-clause-lines
returns-in-Some-clause-lines c =
    let input = c.args.input.now in
    let len = c.in-Some.len in
    let found = c.in-Some.ensures in
    next_line input len found.before found.within found.line_feed ∙ ap (λ l. take len input ∷ lines l) (sym (take_rest input (len + 1)))

pub returns-in-None-clause-lines : goal.returns-in-None-clause-lines
returns-in-None-clause-lines c = last_line c.args.input.now c.in-None.ensures.none c.requires ∙ ap (λ l. c.args.input.now ∷ l) (sym no_line)
