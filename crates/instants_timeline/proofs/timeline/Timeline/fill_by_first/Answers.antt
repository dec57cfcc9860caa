use Rattle.std.proofs.Common.{refl, drop}
use Rattle.instants_sources.specs.Grammar.{grammar_of}
use Rattle.instants_timeline.specs.Settings.{setting_of}
use Rattle.instants_timeline.proofs.FirstNamed.{answer_is_at, answer_is_fault}
use Rattle.instants_timeline.proofs.timeline.Timeline.fill_by_first.Goals as goal

pub returns-in-Ok-clause-line : goal.returns-in-Ok-clause-line
returns-in-Ok-clause-line c =
    let setting = setting_of c.args.self.now in
    rw (← answer_is_at setting c.args.line.now 0 (grammar_of c.first.result.now) (drop 1 setting.sources) c.in-Ok.named refl c.first.ensures c.in-Ok.ensures.gives) c.fill_shown.ensures.line

pub returns-in-Err-clause-line : goal.returns-in-Err-clause-line
returns-in-Err-clause-line c =
    let setting = setting_of c.args.self.now in
    rw (← answer_is_fault setting c.args.line.now (grammar_of c.first.result.now) (drop 1 setting.sources) _ c.first.ensures c.requires.none c.in-Err.ensures.gives) (rw c.from.ensures at c.fill.ensures.line)
