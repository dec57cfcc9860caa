use Rattle.std.proofs.Common.{◌∙◌, sym, arith}
use Rattle.parsing_layout.proofs.RunLemmas.{exact_taken}
use Rattle.parsing_strides.proofs.part.fraction_of.Goals as goal

pub returns-clause-cut : goal.returns-clause-cut
returns-clause-cut c = exact_taken c.args.count c.in-Some.read.0 c.args.text.now c.split_at.result.0.now c.in-Some.read.1.now c.split_at.result.1.now (omega arith) (sym c.split_at.ensures.front) (sym c.split_at.ensures.back) c.in-Some.ensures.fraction (sym c.is_empty.ensures ∙ c.if-not-is_empty.false)
