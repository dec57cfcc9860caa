use Rattle.instants_timeline.proofs.Counted.{AreNodesSoFar}
use Rattle.instants_timeline.proofs.timeline.Timeline.places.Given as goal

abbrev pub invariant-loop-source : goal.invariant-loop-source
invariant-loop-source l = AreNodesSoFar l.self.sources.items l.source-index l.nodes
