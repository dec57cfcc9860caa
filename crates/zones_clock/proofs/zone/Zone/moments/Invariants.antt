use Rattle.std.proofs.Common.{◌-◌, ◌≤◌, ◌≡◌, vec_len}
use Rattle.zones_clock.specs.AllMoments.{moments_of, with_moments}
use Rattle.zones_clock.proofs.BetweenLemmas.{later}
use Rattle.zones_clock.proofs.zone.Zone.moments.Given as goal

-- with those after so many steps, what was found is the answer
abbrev pub invariant-loop-found : goal.invariant-loop-found
invariant-loop-found l = record {
  within : l.count ≤ vec_len l.self.steps;
  found : with_moments l.found (later l.self.first l.self.steps.items l.reading l.count) ≡ moments_of l.self.first l.self.steps.items l.reading;
}

abbrev pub decreases-loop-found : goal.decreases-loop-found
decreases-loop-found l = vec_len l.self.steps - l.count
