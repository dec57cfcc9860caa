use Rattle.calendar_spans.proofs.TextLemmas.{part_of_more}
use Rattle.calendar_spans.proofs.text.write_part.Goals as goal

pub returns : goal.returns
returns g c = rw (part_of_more c.args.n c.args.unit.now c.if-n-eq0.false) at c.write.ensures.writes
