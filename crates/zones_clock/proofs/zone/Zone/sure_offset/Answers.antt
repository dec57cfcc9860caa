use Rattle.std.proofs.Common.{arith}
use Rattle.std.proofs.lemmas.Int.{ints}
use Rattle.zones_clock.proofs.BetweenLemmas.{sure_moment, sure_through}
use Rattle.zones_clock.proofs.zone.Zone.sure_offset.Goals as goal

pub returns-clause-only : goal.returns-clause-only
returns-clause-only c = λ reading from to.
    sure_moment _ _ c.count_begun-count.result reading _ c.offset_after.result (omega (arith, ints)) c.offset_after.ensures.value c.args.self.now.ordered c.args.self.now.first_offset c.args.self.now.offsets (omega arith)
    (sure_through c.args.self.now.steps.items c.count_begun-count.result c.args.first c.args.last reading _ _ c.has_next_begun.result (omega (arith, ints, c.requires.first)) (omega (arith, ints, c.requires.last)) from to c.count_begun-count.ensures.begun.0 c.has_next_begun.ensures c.if-has_next_begun.false)
