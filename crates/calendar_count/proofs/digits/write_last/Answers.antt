use Rattle.std.proofs.Common.{arith}
use Rattle.calendar_count.proofs.DigitLemmas.{last_ones, last_tens, last_hundreds}
use Rattle.calendar_count.proofs.digits.write_last.Goals as goal

pub returns-then-ones-gt0 : goal.returns-then-ones-gt0
returns-then-ones-gt0 g c = rw (last_ones c.args.n c.requires c.if-ones-gt0.true) at c.write.ensures.writes

pub returns-then-tens-gt0 : goal.returns-then-tens-gt0
returns-then-tens-gt0 g c = rw (last_tens c.args.n c.requires (omega arith) c.if-tens-gt0.true) at c.write-then-tens-gt0.ensures.writes

pub returns-else-tens-gt0 : goal.returns-else-tens-gt0
returns-else-tens-gt0 g c = rw (last_hundreds c.args.n c.requires (omega arith) (omega arith)) at c.write-else-tens-gt0.ensures.writes
