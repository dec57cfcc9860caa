use Rattle.std.proofs.Math.Logic.{∥∥₁_elim}
use Rattle.std.proofs.Props.{props}
use Rattle.instants_timeline.specs.Settings.{setting_of}
use Rattle.instants_timeline.proofs.FirstNamed.{led_found}
use Rattle.instants_timeline.proofs.timeline.fast_ways.PlannedWayAnswerWay.fill_answer.Goals as goal

pub read_planned-planned-requires : goal.read_planned-planned-requires
read_planned-planned-requires g c = ∥∥₁_elim c.requires.leads (Prim.hlevel props) (λ led. ∣ led.1 ∣₁)

pub returns-in-Some-clause-line : goal.returns-in-Some-clause-line
returns-in-Some-clause-line g c =
    ∥∥₁_elim c.requires.leads (Prim.hlevel props) (λ led. led_found (setting_of c.args.timeline.now) c.read_planned-planned.result led.0.grammar c.args.line.now c.fill_found.new.room c.in-Some.len led.0.first (c.read_planned-planned.ensures led.0.grammar led.0.planned) c.in-Some.ensures.line)
