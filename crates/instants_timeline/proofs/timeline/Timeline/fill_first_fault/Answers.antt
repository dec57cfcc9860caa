use Rattle.std.proofs.Common.{drop}
use Rattle.instants_sources.specs.Grammar.{grammar_of}
use Rattle.instants_timeline.specs.Settings.{setting_of}
use Rattle.instants_timeline.proofs.FirstNamed.{answer_is_fault}
use Rattle.instants_timeline.proofs.timeline.Timeline.fill_first_fault.Goals as goal

pub returns-then-has_no_year-clause-line : goal.returns-then-has_no_year-clause-line
returns-then-has_no_year-clause-line c =
    let setting = setting_of c.args.self.now in
    rw (← answer_is_fault setting c.args.line.now (grammar_of c.first.result.now) (drop 1 setting.sources) _ c.first.ensures c.requires.none (c.has_no_year.ensures c.if-has_no_year.true)) c.fill_no_year.ensures.line
