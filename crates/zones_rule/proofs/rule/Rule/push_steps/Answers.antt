use Rattle.std.proofs.Common.{refl, rules}
use Rattle.zones_rule.proofs.TransitionLemmas.{clock_follows}
use Rattle.zones_rule.proofs.rule.Rule.push_steps.Goals as goal

pub returns-in_ok-push_years-clause-law : goal.returns-in_ok-push_years-clause-law
returns-in_ok-push_years-clause-law c = clock_follows c.args.self.now.standard c.args.self.now.summer c.args.names c.args.zone.now.first _ c.args.zone.now.steps.items c.push_years.new.zone.steps.items c.args.moment c.requires.order c.args.zone.now.ordered c.requires.last (search rules) c.in_ok-push_years.ensures.first

pub returns-in_default-clause-law : goal.returns-in_default-clause-law
returns-in_default-clause-law c = clock_follows c.args.self.now.standard c.args.self.now.summer c.args.names c.args.zone.now.first c.args.zone.now.first c.args.zone.now.steps.items c.args.zone.now.steps.items c.args.moment c.requires.order c.args.zone.now.ordered c.requires.last (search rules) refl
