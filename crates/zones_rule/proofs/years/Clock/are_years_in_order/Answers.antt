use Rattle.std.proofs.Common.{◌≡◌, ◌-◌, sym, arith, ap, refl}
use Rattle.std.proofs.lemmas.Int.{ints}
use Rattle.zones_rule.specs.Transitions.{years_in_order}
use Rattle.zones_rule.proofs.TransitionLemmas.{order_next, out_of_order}
use Rattle.zones_rule.proofs.PeriodLemmas.{all_in_order}
use Rattle.zones_rule.proofs.years.Clock.are_years_in_order.Goals as goal

pub returns-then-last-first : goal.returns-then-last-first
returns-then-last-first c = out_of_order _ _ c.loop-year.year _ _ (omega arith) (omega arith) c.loop-year.invariant.last c.transitions_in-in-loop-year.ensures (omega (arith, ints))

pub loop-year-init : goal.loop-year-init
unfolding years_in_order
loop-year-init c = record { last = ap (λ p. p.1) c.transitions_in.ensures; before = refl }

pub loop-year-preserved : goal.loop-year-preserved
loop-year-preserved c = record {
  last = ap (λ p. p.1) c.transitions_in-in-loop-year.ensures;
  before = order_next _ _ c.loop-year.year _ _ (omega arith) c.loop-year.invariant.last c.transitions_in-in-loop-year.ensures (omega (arith, ints)) c.loop-year.invariant.before;
}

pub returns : goal.returns
returns c = let last : c.loop-year.year - 1 ≡ 401 = omega arith in sym (all_in_order _ _ 9_598 (rw last at c.loop-year.invariant.before))
