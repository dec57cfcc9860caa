use Rattle.std.proofs.Common.{arith}
use Rattle.std.proofs.lemmas.List.Sums.{prefix_len-le-length}
use Rattle.description_lexer.specs.Text.{is_plain}
use Rattle.description_lexer.proofs.literals.literal_run.Goals as goal

pub overflow_add-result : goal.overflow_add-result
overflow_add-result c = rw c.plain_len.ensures (let le = prefix_len-le-length (is_plain c.args.version) c.split_at.result.1.now in omega (arith, le, c.split_at.ensures.back_len, c.type_inv.text))
