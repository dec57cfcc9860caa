use Rattle.instants_sources.proofs.Planned.{places_named}
use Rattle.instants_timeline.proofs.timeline.fast_ways.RefPlacesReadsPlanned.read_planned.Goals as goal

pub returns : goal.returns
returns c = λ grammar planned. places_named grammar c.args.self.now.now c.args.line.now c.args.assumed c.read_plain.result planned (c.read_plain.ensures c.args.assumed)
