use Rattle.std.proofs.Common.{◌∙◌, sym, ap, length}
use Rattle.instants_fields.specs.Found.{with_place}
use Rattle.instants_fields.proofs.ItemLemmas.{number_here}
use Rattle.instants_fields.proofs.value.placed_value.Goals as goal

pub returns-clause-cut : goal.returns-clause-cut
returns-clause-cut c =
    let digit = c.may_be_number.ensures c.if-not-may_be_number.false in
    ap (with_place (length c.args.text.now)) c.in-Some.ensures.cut ∙ sym (number_here c.args.levels c.args.text.now digit.0 digit.1 digit.2)

pub returns-in_default-clause-cut : goal.returns-in_default-clause-cut
returns-in_default-clause-cut c =
    let digit = c.may_be_number.ensures c.if-not-may_be_number.false in
    ap (with_place (length c.args.text.now)) c.in_default.ensures.cut ∙ sym (number_here c.args.levels c.args.text.now digit.0 digit.1 digit.2)
