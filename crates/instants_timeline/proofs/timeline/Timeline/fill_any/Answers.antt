use Rattle.std.proofs.Common.{refl, drop}
use Rattle.instants_sources.specs.Grammar.{grammar_of}
use Rattle.instants_timeline.specs.Settings.{setting_of}
use Rattle.instants_timeline.proofs.FirstNamed.{answer_is_at}
use Rattle.instants_timeline.proofs.timeline.Timeline.fill_any.Goals as goal

pub returns-then-keeps_fast-clause-line : goal.returns-then-keeps_fast-clause-line
returns-then-keeps_fast-clause-line c =
    let setting = setting_of c.args.self.now in
    rw (← answer_is_at setting c.args.line.now 0 (grammar_of c.first.result.now) (drop 1 setting.sources) c.keeps_fast.new.kept refl c.first.ensures (c.keeps_fast.ensures c.if-keeps_fast.true)) c.fill_kept.ensures.line
