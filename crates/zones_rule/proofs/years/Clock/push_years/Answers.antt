use Rattle.std.proofs.Common.{rules, arith, to_z-of_z, w64}
use Rattle.zones_rule.proofs.PushLemmas.{ready_in_year, ready_next_year, year_pushed, last_pushed, none_pushed}
use Rattle.zones_rule.proofs.years.Clock.push_years.Goals as goal

pub push_before-requires-in-loop-year-clause-ready : goal.push_before-requires-in-loop-year-clause-ready
push_before-requires-in-loop-year-clause-ready c = ready_in_year c.args.self.standard c.args.self.summer c.loop-year.year c.transitions_in.result c.push_before.new.zone.steps.items _ c.in_ok-pending.pending c.transitions_in.ensures c.in_ok-pending.ensures.ready

pub loop-year-preserved : goal.loop-year-preserved
loop-year-preserved c = record {
  first = search rules;
  first_name = search rules;
  letters = search rules;
  all = year_pushed c.args.self c.args.names _ c.loop-year.year c.transitions_in.result c.loop-year.zone.steps.items c.push_before.new.zone.steps.items c.push_before-in-loop-year.new.zone.steps.items _ c.loop-year.pending c.in_ok-pending.pending c.in_ok-pending-2.pending (omega arith) c.transitions_in.ensures c.in_ok-pending.ensures.all c.in_ok-pending-2.ensures.all c.loop-year.invariant.all;
  ready = ready_next_year c.args.self.standard c.args.self.summer c.loop-year.year c.transitions_in.result c.push_before-in-loop-year.new.zone.steps.items _ c.in_ok-pending-2.pending c.requires.order (omega arith) (omega arith) c.transitions_in.ensures c.in_ok-pending-2.ensures.ready;
}

pub returns-in_ok-push-clause-pushed : goal.returns-in_ok-push-clause-pushed
returns-in_ok-push-clause-pushed c = last_pushed c.args.self c.args.names c.args.moment c.loop-year.year c.loop-year.zone.steps.items _ _ c.step_of.result c.loop-year.pending c.in-Some.last (omega arith) c.in-Some.is c.step_of.ensures.value c.in_ok-push.ensures.pushed (simp (to_z-of_z {w = w64} {z = c.args.moment} (omega arith)) at c.loop-year.invariant.all)

pub returns-in_default-clause-pushed : goal.returns-in_default-clause-pushed
returns-in_default-clause-pushed c = none_pushed c.args.self c.args.names c.args.moment c.loop-year.year c.loop-year.zone.steps.items _ c.loop-year.pending (omega arith) (search rules) (simp (to_z-of_z {w = w64} {z = c.args.moment} (omega arith)) at c.loop-year.invariant.all)
