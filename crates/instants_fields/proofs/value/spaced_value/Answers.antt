use Rattle.std.proofs.Common.{◌∙◌, sym, ap, length}
use Rattle.instants_fields.specs.Found.{with_place}
use Rattle.instants_fields.proofs.ItemLemmas.{string_here}
use Rattle.instants_fields.proofs.value.spaced_value.Goals as goal

pub returns-clause-cut : goal.returns-clause-cut
returns-clause-cut c =
    ap (with_place (length c.args.text.now)) c.in-Some-quoted.ensures.cut ∙ sym (string_here c.args.levels c.args.text.now c.in-Some.inside.now c.in-Some.ensures.cut)

pub returns-in_default-quoted-clause-cut : goal.returns-in_default-quoted-clause-cut
returns-in_default-quoted-clause-cut c =
    ap (with_place (length c.args.text.now)) c.in_default-quoted.ensures.cut ∙ sym (string_here c.args.levels c.args.text.now c.in-Some.inside.now c.in-Some.ensures.cut)
