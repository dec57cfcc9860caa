use Rattle.std.proofs.Common.{true, arith}
use Rattle.std.proofs.lemmas.Grind.{common_steps}
use Rattle.parsing_combinator.specs.Shape.{taken}
use Rattle.parsing_combinator.specs.Numbers.{padded}
use Rattle.parsing_components.specs.Ranged.{counted, months}
use Rattle.parsing_components.specs.Component.{date_piece}
use Rattle.parsing_components.specs.declared.said.Read.TheVariants as read
use Rattle.parsing_components.proofs.Entries.{kept_as}
use Rattle.parsing_components.proofs.reading.read.Goals as goal

pub returns-in-MonthNumerical-clause-reads : goal.returns-in-MonthNumerical-clause-reads
unfolding date_piece
returns-in-MonthNumerical-clause-reads c =
    let as_month = kept_as read.Month (counted true months) (taken (padded c.in-MonthNumerical.m.padding 2 2) c.args.bytes.now) in
    grind (arith, common_steps, as_month)
