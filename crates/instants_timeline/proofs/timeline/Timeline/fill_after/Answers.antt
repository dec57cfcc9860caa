use Rattle.std.proofs.Common.{◌+◌, drop}
use Rattle.instants_sources.specs.Grammar.{grammar_of}
use Rattle.instants_timeline.specs.Settings.{setting_of}
use Rattle.instants_timeline.proofs.FirstNamed.{held_at}
use Rattle.instants_timeline.proofs.timeline.Timeline.fill_after.Goals as goal

pub returns-in-Some-fill_usual-clause-line : goal.returns-in-Some-fill_usual-clause-line
returns-in-Some-fill_usual-clause-line c =
    let setting = setting_of c.args.self.now in
    held_at setting c.args.line.now c.fill_usual.new.room c.in-Some-fill_usual.len c.in-Some.place (grammar_of c.in-Some.source.now) (drop (c.in-Some.place + 1) setting.sources) c.in-Some.ensures.from c.in-Some.ensures.source c.in-Some-fill_usual.ensures.line
