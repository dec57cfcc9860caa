use Rattle.std.proofs.Common.{refl}
use Rattle.std.proofs.Math.Logic.{∥∥₁_elim}
use Rattle.std.proofs.Props.{props}
use Rattle.instants_sources.specs.Grammar as grammar
use Rattle.instants_timeline.specs.Settings.{setting_of}
use Rattle.instants_timeline.proofs.FirstNamed.{led_read, names_from_next}
use Rattle.instants_timeline.proofs.timeline.fast_ways.Rfc3339WayAnswerWay.fill_answer.Goals as goal

pub fill_after-requires-clause-from : goal.fill_after-requires-clause-from
fill_after-requires-clause-from c =
    let setting = setting_of c.args.timeline.now in
    ∥∥₁_elim c.requires.leads (Prim.hlevel props) (λ led. names_from_next setting c.args.line.now 0 grammar.Rfc3339 refl led (c.is_no_rfc3339.ensures c.if-is_no_rfc3339.true setting.assumed))

pub returns-in-Some-clause-line : goal.returns-in-Some-clause-line
returns-in-Some-clause-line c =
    ∥∥₁_elim c.requires.leads (Prim.hlevel props) (λ led. led_read c.directly_named.ensures (setting_of c.args.timeline.now) c.args.line.now c.fill_usual_rfc3339.new.room c.in-Some.len led c.in-Some.ensures.line)
