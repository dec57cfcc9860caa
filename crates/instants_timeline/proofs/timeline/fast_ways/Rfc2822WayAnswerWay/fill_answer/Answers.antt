use Rattle.std.proofs.Math.Logic.{∥∥₁_elim}
use Rattle.std.proofs.Props.{props}
use Rattle.instants_sources.specs.Grammar as grammar
use Rattle.instants_timeline.specs.Settings.{setting_of}
use Rattle.instants_timeline.proofs.FirstNamed.{led_direct}
use Rattle.instants_timeline.proofs.timeline.fast_ways.Rfc2822WayAnswerWay.fill_answer.Goals as goal

pub returns-in-Some-clause-line : goal.returns-in-Some-clause-line
returns-in-Some-clause-line c =
    ∥∥₁_elim c.requires.leads (Prim.hlevel props) (λ led. led_direct c.directly_named.ensures (setting_of c.args.timeline.now) c.read_usual_fields.result grammar.Rfc2822 c.args.line.now c.fill_found.new.room c.in-Some.len led c.read_usual_fields.ensures c.in-Some.ensures.line)
