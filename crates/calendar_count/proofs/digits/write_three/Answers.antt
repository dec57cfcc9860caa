use Rattle.calendar_count.proofs.DigitLemmas.{decimal_three}
use Rattle.calendar_count.proofs.digits.write_three.Goals as goal

pub returns : goal.returns
returns g c = rw (decimal_three c.args.n c.requires) at c.write.ensures.writes
