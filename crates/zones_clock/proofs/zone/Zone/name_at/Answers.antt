use Rattle.std.proofs.Common.{arith}
use Rattle.std.proofs.lemmas.Int.{ints}
use Rattle.zones_clock.proofs.ClockLemmas.{name_place_between}
use Rattle.zones_clock.proofs.zone.Zone.name_at.Goals as goal

pub returns : goal.returns
returns c = cc (name_place_between c.args.self.now.first_name c.args.self.now.steps.items c.count_begun.result _ c.args.moment (omega (arith, ints)) (omega arith) c.count_begun.ensures.begun)
