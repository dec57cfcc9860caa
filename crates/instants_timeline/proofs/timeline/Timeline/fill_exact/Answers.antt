use Rattle.std.proofs.Common.{refl, ap, drop}
use Rattle.std.specs.Result.{result_ok}
use Rattle.instants_sources.specs.Grammar.{grammar_of}
use Rattle.instants_timeline.specs.Settings.{setting_of}
use Rattle.instants_timeline.proofs.FirstNamed.{answer_is_at, names_from_next}
use Rattle.instants_timeline.proofs.timeline.Timeline.fill_exact.Goals as goal

pub returns-in-Ok-clause-line : goal.returns-in-Ok-clause-line
returns-in-Ok-clause-line c =
    let setting = setting_of c.args.self.now in
    rw (← answer_is_at setting c.args.line.now 0 (grammar_of c.first.result.now) (drop 1 setting.sources) c.in-Ok.named refl c.first.ensures c.in-Ok.ensures.gives) c.fill_shown.ensures.line

pub fill_from-requires-clause-from : goal.fill_from-requires-clause-from
fill_from-requires-clause-from c = names_from_next (setting_of c.args.self.now) c.args.line.now 0 (grammar_of c.first.result.now) refl c.first.ensures (ap result_ok c.in-Err.ensures.gives)

pub fill_from-requires-clause-known : goal.fill_from-requires-clause-known
fill_from-requires-clause-known c = record {
  grammar = grammar_of c.first.result.now;
  first = c.first.ensures;
  refused = c.in-Err.ensures.gives;
}
