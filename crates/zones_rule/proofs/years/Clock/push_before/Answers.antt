use Rattle.std.proofs.Common.{rules, arith, ap}
use Rattle.std.proofs.lemmas.Int.{ints}
use Rattle.zones_rule.proofs.PushLemmas.{starts, passes, adds, overtakes, comes_after}
use Rattle.zones_rule.proofs.years.Clock.push_before.Goals as goal

pub returns-then-moment-next-clause-all : goal.returns-then-moment-next-clause-all
returns-then-moment-next-clause-all c = starts c.args.self c.args.names c.args.moment c.args.zone.now.steps.items c.args.pending c.args.next (search rules) (omega (arith, ints))

pub returns-else-moment-next-clause-all : goal.returns-else-moment-next-clause-all
returns-else-moment-next-clause-all c = passes c.args.self c.args.names c.args.moment c.args.zone.now.steps.items c.args.pending c.args.next (search rules) (omega (arith, ints))

pub returns-in_ok-push-clause-all : goal.returns-in_ok-push-clause-all
returns-in_ok-push-clause-all c = adds c.args.self c.args.names c.args.moment c.push.new.self.steps.items c.args.zone.now.steps.items c.step_of.result c.args.pending c.in-Some.last c.args.next c.in-Some.is (omega (arith, ints)) c.step_of.ensures.value c.in_ok-push.ensures.pushed

pub returns-in_ok-push-clause-ready : goal.returns-in_ok-push-clause-ready
returns-in_ok-push-clause-ready c = (comes_after _ _ c.step_of.result _ c.in_ok-push.ensures.pushed (omega (arith, ints, ap (λ s. s.from) c.step_of.ensures.value)), omega (arith, ints))

pub returns-else-last-next-clause-all : goal.returns-else-last-next-clause-all
returns-else-last-next-clause-all c = overtakes c.args.self c.args.names c.args.moment c.args.zone.now.steps.items c.args.pending c.in-Some.last c.args.next c.in-Some.is (omega (arith, ints))
