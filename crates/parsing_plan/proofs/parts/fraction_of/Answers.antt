use Rattle.parsing_plan.proofs.FieldLemmas.{fraction_written}
use Rattle.parsing_plan.proofs.parts.fraction_of.Goals as goal

pub returns-in-Some-fraction-clause-says : goal.returns-in-Some-fraction-clause-says
returns-in-Some-fraction-clause-says c =
    let digits = c.in-Some-fraction in
    rw (c.in_default.is, digits.is) (fraction_written c.args.line.now digits.place digits.count c.of_digits.result c.of_digits.ensures.writes)
