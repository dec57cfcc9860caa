use Rattle.std.proofs.Common.{refl, ap, drop}
use Rattle.std.specs.Result.{result_ok}
use Rattle.instants_sources.specs.Grammar.{grammar_of}
use Rattle.instants_timeline.specs.Settings.{setting_of}
use Rattle.instants_timeline.proofs.FirstNamed.{first_is_at, names_from_next}
use Rattle.instants_timeline.proofs.timeline.Timeline.named_moment.Goals as goal

pub returns-then-keeps_fast-clause-gives : goal.returns-then-keeps_fast-clause-gives
returns-then-keeps_fast-clause-gives c =
    let setting = setting_of c.args.self.now in
    rw c.moment.ensures (first_is_at setting c.args.line.now 0 (grammar_of c.first-first.result.now) (drop 1 setting.sources) c.keeps_fast.new.kept refl c.first-first.ensures (c.keeps_fast.ensures c.if-keeps_fast.true))

pub first_named-requires-clause-from : goal.first_named-requires-clause-from
first_named-requires-clause-from c =
    names_from_next (setting_of c.args.self.now) c.args.line.now 0 (grammar_of c.first-first.result.now) refl c.first-first.ensures (c.cannot_match.ensures c.if-cannot_match.true c.args.self.now.assumed)

pub first_named-requires-in-Err-clause-from : goal.first_named-requires-in-Err-clause-from
first_named-requires-in-Err-clause-from c = names_from_next (setting_of c.args.self.now) c.args.line.now 0 (grammar_of c.first-first.result.now) refl c.first-first.ensures (ap result_ok c.in-Err.ensures.gives)

pub returns-in-Ok-clause-gives : goal.returns-in-Ok-clause-gives
returns-in-Ok-clause-gives c =
    let setting = setting_of c.args.self.now in
    first_is_at setting c.args.line.now 0 (grammar_of c.first-first.result.now) (drop 1 setting.sources) c.in-Ok.moment refl c.first-first.ensures c.in-Ok.ensures.gives
