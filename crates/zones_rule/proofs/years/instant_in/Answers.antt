use Rattle.std.proofs.Common.{arith}
use Rattle.std.proofs.lemmas.Int.{ints}
use Rattle.zones_rule.proofs.years.instant_in.Goals as goal

pub returns : goal.returns
returns c = omega (arith, ints, c.day_in.ensures.value, c.from.ensures, c.from-2.ensures)
