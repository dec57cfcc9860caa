use Rattle.calendar_count.proofs.DigitLemmas.{decimal_two}
use Rattle.calendar_count.proofs.digits.write_two.Goals as goal

pub returns : goal.returns
returns g c = rw (decimal_two c.args.n c.requires) at c.write.ensures.writes
