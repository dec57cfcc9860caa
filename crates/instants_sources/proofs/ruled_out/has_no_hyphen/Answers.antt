use Rattle.std.proofs.Common.{nat_eq, slice_index_or, arith}
use Rattle.std.proofs.lemmas.Bool.{not-true}
use Rattle.instants_sources.proofs.RuledOut.{five_due, hyphen_due}
use Rattle.instants_sources.proofs.ruled_out.has_no_hyphen.Goals as goal

pub returns-then-line-lt5 : goal.returns-then-line-lt5
returns-then-line-lt5 c = λ e. five_due c.args.line.now (omega (arith, c.if-line-lt5.true))

pub returns : goal.returns
returns c = λ e. hyphen_due c.args.line.now (not-true (nat_eq (slice_index_or c.args.line.now 4 0) 45) e)
