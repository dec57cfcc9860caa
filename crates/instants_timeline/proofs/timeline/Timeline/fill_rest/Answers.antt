use Rattle.std.proofs.Common.{refl}
use Rattle.instants_sources.specs.Grammar.{grammar_of}
use Rattle.instants_timeline.specs.Settings.{setting_of}
use Rattle.instants_timeline.proofs.FirstNamed.{names_from_next}
use Rattle.instants_timeline.proofs.timeline.Timeline.fill_rest.Goals as goal

pub fill_after-requires-clause-from : goal.fill_after-requires-clause-from
fill_after-requires-clause-from c = names_from_next (setting_of c.args.self.now) c.args.line.now 0 (grammar_of c.first.result.now) refl c.first.ensures (c.cannot_match.ensures c.if-cannot_match.true c.args.self.now.assumed)
