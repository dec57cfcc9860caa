use Rattle.parsing_iso8601_shapes.proofs.FormLemmas.{front_moves, back_moves, within, right, row_fits}
use Rattle.parsing_iso8601_shapes.proofs.forms.form_at.Goals as goal

pub invariant_of-result-3-clause-year_is : goal.invariant_of-result-3-clause-year_is
invariant_of-result-3-clause-year_is c = (right c.row_of.result c.row_of.ensures.bound (front_moves c.row_of.result c.row_of.ensures.bound) (back_moves c.row_of.result c.row_of.ensures.bound)).0

pub invariant_of-result-3-clause-bounded : goal.invariant_of-result-3-clause-bounded
invariant_of-result-3-clause-bounded c = (right c.row_of.result c.row_of.ensures.bound (front_moves c.row_of.result c.row_of.ensures.bound) (back_moves c.row_of.result c.row_of.ensures.bound)).1

pub returns : goal.returns
returns c =
    let lt = c.row_of.ensures.bound in
    let at = c.row_of.result in
    row_fits c.args.form at c.args.has_second c.requires c.row_of.ensures.row lt (front_moves at lt) (back_moves at lt) (within at lt) (right at lt (front_moves at lt) (back_moves at lt)).0 (right at lt (front_moves at lt) (back_moves at lt)).1
