use Rattle.instants_timeline.proofs.Counted.{IsTriedSoFar}
use Rattle.instants_timeline.proofs.timeline.Timeline.tried.Given as goal

abbrev pub invariant-loop-source : goal.invariant-loop-source
invariant-loop-source l = IsTriedSoFar l.self.assumed l.self.sources.items l.line l.source-index l.tried
