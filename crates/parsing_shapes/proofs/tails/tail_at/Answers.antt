use Rattle.parsing_shapes.proofs.RowLemmas.{digits_right, offset_right, row_there}
use Rattle.parsing_shapes.proofs.tails.tail_at.Goals as goal

pub invariant_of-result-2 : goal.invariant_of-result-2
invariant_of-result-2 c = record { right = digits_right c.args.bytes c.row_of-kind.result c.requires c.row_of-kind.ensures.bound }

pub invariant_of-result-3 : goal.invariant_of-result-3
invariant_of-result-3 c = record { right = row_there c.args.ending c.args.bytes c.row_of-kind.result c.length_of.result c.requires c.row_of-kind.ensures.row c.length_of.ensures.length (offset_right c.row_of-kind.result c.row_of-kind.ensures.bound, digits_right c.args.bytes c.row_of-kind.result c.requires c.row_of-kind.ensures.bound) }
