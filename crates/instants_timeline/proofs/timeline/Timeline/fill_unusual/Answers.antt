use Rattle.std.proofs.Common.{◌+◌, drop, ap}
use Rattle.std.specs.Result.{result_ok}
use Rattle.instants_sources.specs.Grammar.{grammar_of}
use Rattle.instants_timeline.specs.Settings.{setting_of}
use Rattle.instants_timeline.proofs.FirstNamed.{answer_is_at, held_at, held_found, names_from_next}
use Rattle.instants_timeline.proofs.timeline.Timeline.fill_unusual.Goals as goal

pub returns-in-Some-clause-line : goal.returns-in-Some-clause-line
returns-in-Some-clause-line c =
    let setting = setting_of c.args.self.now in
    held_at setting c.args.line.now c.fill_found.new.room c.in-Some.len c.args.place (grammar_of c.args.source.now) (drop (c.args.place + 1) setting.sources) c.requires.from c.requires.source
    (held_found setting c.read_other.result (grammar_of c.args.source.now) c.args.line.now c.fill_found.new.room c.in-Some.len c.read_other.ensures c.in-Some.ensures.line)

pub returns-in-Ok-clause-line : goal.returns-in-Ok-clause-line
returns-in-Ok-clause-line c =
    let setting = setting_of c.args.self.now in
    rw (← answer_is_at setting c.args.line.now c.args.place (grammar_of c.args.source.now) (drop (c.args.place + 1) setting.sources) c.in-Ok.named c.requires.from c.requires.source c.in-Ok.ensures.gives) c.fill_shown.ensures.line

pub fill_from-requires-clause-from : goal.fill_from-requires-clause-from
fill_from-requires-clause-from c = names_from_next (setting_of c.args.self.now) c.args.line.now c.args.place (grammar_of c.args.source.now) c.requires.from c.requires.source (ap result_ok c.in-Err.ensures.gives)
