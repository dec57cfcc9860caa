use Rattle.instants_sources.proofs.Planned.{unix_named}
use Rattle.instants_timeline.proofs.timeline.fast_ways.RefUnixTimeReadsPlanned.read_planned.Goals as goal

pub returns : goal.returns
returns c = λ grammar planned. unix_named grammar c.args.self.now.now c.args.line.now c.args.assumed c.read_within.result planned c.read_within.ensures
