use Rattle.std.proofs.Common.{◌∙◌, sym}
use Rattle.instants_fields.proofs.StringLemmas.{mark_first, behind_mark}
use Rattle.instants_fields.proofs.PlainRuns.{pass_plain, plain_says}
use Rattle.instants_fields.proofs.string.compared.Goals as goal

pub compared_slowly-requires : goal.compared_slowly-requires
compared_slowly-requires c = rw c.after-left.ensures (pass_plain c.plain_count-count.result c.args.text.now c.plain_count-count.ensures.within c.plain_count-count.ensures.plain)

pub returns-in-Some-clause-cut : goal.returns-in-Some-clause-cut
returns-in-Some-clause-cut c =
    sym (behind_mark c.after-left.result.now c.in-Some.rest.now c.in-Some.ensures.cut)
    ∙ rw c.after-left.ensures (pass_plain c.plain_count-count.result c.args.text.now c.plain_count-count.ensures.within c.plain_count-count.ensures.plain)

pub returns-in-Some-clause-says : goal.returns-in-Some-clause-says
returns-in-Some-clause-says c =
    let at_mark = sym c.after-left.ensures ∙ mark_first c.after-left.result.now c.in-Some.rest.now c.in-Some.ensures.cut in
    c.eq.ensures ∙ sym (plain_says c.plain_count-count.result c.args.name.now c.args.text.now c.in-Some.rest.now c.plain_count-count.ensures.within c.plain_count-count.ensures.plain at_mark)
