use Rattle.parsing_rfc3339.proofs.SaysLemmas.{text_read, some_zone}
use Rattle.parsing_rfc3339.proofs.WholeLemmas.{text_whole}
use Rattle.parsing_rfc3339.specs.Layout.{front_parts}
use Rattle.parsing_rfc3339.proofs.direct.read_usual_fields.Goals as goal

pub returns-clause-moment : goal.returns-clause-moment
returns-clause-moment c =
    let m = c.in_ok-fields.ensures front_parts c.shape.ensures.fits in
    text_read _ _ c.args.input.now c.in_ok-fields.fields (some_zone m.0 m.1) m.2

pub returns-clause-whole : goal.returns-clause-whole
returns-clause-whole c like =
    let m = c.in_ok-fields.ensures front_parts c.shape.ensures.fits in
    text_whole m.0 c.args.input.now c.in_ok-fields.fields m.1 m.2 like
