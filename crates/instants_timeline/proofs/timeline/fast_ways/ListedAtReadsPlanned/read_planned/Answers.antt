use Rattle.std.proofs.Common.{refl}
use Rattle.std.proofs.Math.Logic.{∥∥₁_elim}
use Rattle.std.proofs.Props.{props}
use Rattle.instants_sources.proofs.Planned.{planned_named}
use Rattle.parsing_plan.specs.declared.plan.Plan.TheVariants as plan
use Rattle.instants_timeline.proofs.timeline.fast_ways.ListedAtReadsPlanned.read_planned.Goals as goal

pub returns : goal.returns
returns c = λ grammar planned. ∥∥₁_elim c.requires (Prim.hlevel props) (λ assumes.
    let list = c.args.self.now.listed.now in
    planned_named grammar (plan.Listed list) c.args.line.now c.args.assumed c.read.result planned (λ m defaults of starts. c.read.ensures c.args.assumed assumes m defaults (of.2 list refl) starts))
