use Rattle.std.proofs.Math.Logic.{∥∥₁_elim}
use Rattle.std.proofs.Props.{props}
use Rattle.instants_sources.proofs.Planned.{places_named}
use Rattle.instants_timeline.proofs.timeline.fast_ways.SplitPlacesReadsPlanned.read_planned.Goals as goal

pub returns : goal.returns
returns c = λ grammar planned. ∥∥₁_elim c.requires (Prim.hlevel props) (λ assumes. places_named grammar c.args.self.now.places.now c.args.line.now c.args.assumed c.read.result planned (c.read.ensures c.args.assumed assumes))
