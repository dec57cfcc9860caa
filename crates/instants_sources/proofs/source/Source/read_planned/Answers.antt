use Rattle.instants_sources.specs.Grammar.{grammar_of}
use Rattle.instants_sources.proofs.Planned.{planned_named}
use Rattle.instants_sources.proofs.source.Source.read_planned.Goals as goal

pub returns : goal.returns
returns c = planned_named (grammar_of c.args.self.now) c.in_ok-plan.plan.now c.args.line.now c.args.assumed c.read.result c.in_ok-plan.ensures c.read.ensures
