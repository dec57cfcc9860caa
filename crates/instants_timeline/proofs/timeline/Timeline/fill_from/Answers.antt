use Rattle.std.proofs.Common.{drop}
use Rattle.parsing_combinator.specs.FaultOf.{fault_of}
use Rattle.instants_timeline.specs.Settings.{setting_of}
use Rattle.instants_timeline.proofs.FirstNamed.{answer_is_fault}
use Rattle.instants_timeline.proofs.timeline.Timeline.fill_from.Goals as goal

pub returns-in-Some-known-clause-line : goal.returns-in-Some-known-clause-line
returns-in-Some-known-clause-line c =
    let setting = setting_of c.args.self.now in
    let known = rw c.in-Some-known.is at c.requires.known in
    rw (← answer_is_fault setting c.args.line.now known.grammar (drop 1 setting.sources) (fault_of c.in-Some-known.fault) known.first c.in_default.ensures.none known.refused) (rw c.from.ensures at c.fill.ensures.line)
