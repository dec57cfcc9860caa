use Rattle.std.proofs.Common.{arith}
use Rattle.calendar_count.proofs.lemmas.Signed.{signed}
use Rattle.datetime_types.proofs.difference.difference.Goals as goal

pub returns : goal.returns
returns c = omega (arith, signed, c.new.ensures.value, c.requires.one, c.requires.other)
