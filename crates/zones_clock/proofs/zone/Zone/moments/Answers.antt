use Rattle.std.proofs.Common.{arith, ◌<◌, length, subst, sym}
use Rattle.std.proofs.lemmas.Int.{ints}
use Rattle.zones_clock.specs.Clock.{AreTheMoments}
use Rattle.zones_clock.proofs.MomentLemmas.{answer_is}
use Rattle.zones_clock.proofs.BetweenLemmas.{found_first, found_next, found_last, next_there}
use Rattle.zones_clock.proofs.zone.Zone.moments.Goals as goal

pub loop-found-init : goal.loop-found-init
loop-found-init c = record {
  within = c.count_begun-count.ensures.within;
  found = found_first _ _ _ _ _ c.args.self.now.ordered c.args.self.now.first_offset c.args.self.now.offsets (omega arith) (omega (arith, ints)) c.count_begun-count.ensures.begun.0;
}

pub loop-found-preserved : goal.loop-found-preserved
loop-found-preserved c =
    let there : c.loop-found.count < length c.args.self.now.steps.items = next_there c.args.self.now.steps.items c.loop-found.count _ c.has_next_begun.result c.has_next_begun.ensures c.loop-found-test.true in
    record {
      within = omega (arith, there);
      found = found_next _ _ _ _ _ _ _ (omega (arith, ints)) c.args.self.now.ordered there c.with_moment_after-found.ensures c.loop-found.invariant.found;
    }

pub returns-clause-function : goal.returns-clause-function
returns-clause-function c = found_last c.args.self.now.first c.args.self.now.steps.items c.args.reading _ _ _ c.loop-found.count c.loop-found.found _ c.has_next_begun.result (omega (arith, ints)) (omega (arith, ints)) (omega (arith, ints)) c.args.self.now.ordered c.args.self.now.first_offset c.args.self.now.offsets (omega arith)
    c.has_next_begun.ensures c.loop-found-test.false c.with_moment_after.ensures c.loop-found.invariant.found

pub returns-clause-relation : goal.returns-clause-relation
returns-clause-relation c = subst (AreTheMoments c.args.self.now.first c.args.self.now.steps.items c.args.reading) (sym (returns-clause-function c)) (answer_is _ _ _)
