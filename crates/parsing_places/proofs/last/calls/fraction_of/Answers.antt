use Rattle.parsing_values.specs.DigitsBack.{digits_below}
use Rattle.parsing_places.proofs.LastLemmas.{nine_there, fraction_there}
use Rattle.parsing_places.proofs.last.calls.fraction_of.Goals as goal

pub first_nine-first-requires : goal.first_nine-first-requires
first_nine-first-requires c = λ k le lt. c.as_text.ensures.rest k le lt (c.requires.rest k le lt)

pub of_nine-requires : goal.of_nine-requires
of_nine-requires c =
    let nine = c.first_nine-first.ensures in
    nine_there c.args.digits c.as_text.result _ _ nine.long nine.small c.as_text.ensures.text nine.first nine.last c.requires.few

pub returns-clause-writes : goal.returns-clause-writes
returns-clause-writes c = λ text place count h.
    let nine = c.first_nine-first.ensures in
    rw c.of_nine.ensures (fraction_there c.args.digits c.as_text.result _ _ nine.long nine.small c.as_text.ensures.text nine.first nine.last text place count h)

pub returns-clause-bound : goal.returns-clause-bound
returns-clause-bound c =
    let nine = c.first_nine-first.ensures in
    rw c.of_nine.ensures (digits_below _ _ (nine_there c.args.digits c.as_text.result _ _ nine.long nine.small c.as_text.ensures.text nine.first nine.last c.requires.few))
