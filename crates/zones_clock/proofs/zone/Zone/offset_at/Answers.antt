use Rattle.std.proofs.Common.{arith}
use Rattle.std.proofs.lemmas.Int.{ints}
use Rattle.zones_clock.proofs.ClockLemmas.{offset_between}
use Rattle.zones_clock.proofs.zone.Zone.offset_at.Goals as goal

pub returns : goal.returns
returns c = omega (arith, ints, c.offset_after.ensures.value, offset_between c.args.self.now.first c.args.self.now.steps.items c.count_begun.result _ c.args.moment (omega (arith, ints)) (omega arith) c.count_begun.ensures.begun)
