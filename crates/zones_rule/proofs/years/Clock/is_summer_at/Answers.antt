use Rattle.std.proofs.Common.{◌∙◌, sym, arith, to_z-of_z, w64}
use Rattle.std.proofs.lemmas.Int.{ints}
use Rattle.zones_rule.proofs.TransitionLemmas.{begun, waits, with_pair, after_all}
use Rattle.zones_rule.proofs.years.Clock.is_summer_at.Goals as goal

pub returns-then-moment-first : goal.returns-then-moment-first
returns-then-moment-first c =
    sym (waits _ _ _ _ (omega (arith, ints)))
    ∙ with_pair _ _ c.loop-year.year _ _ _ c.transitions_in.result (omega arith) c.transitions_in.ensures (simp (to_z-of_z {w = w64} {z = c.args.moment} (omega arith)) at c.loop-year.invariant)

pub returns-then-moment-second : goal.returns-then-moment-second
returns-then-moment-second c =
    sym (begun _ c.transitions_in.result.0 _ _ (omega (arith, ints)) ∙ waits _ c.transitions_in.result.1 _ _ (omega (arith, ints)))
    ∙ with_pair _ _ c.loop-year.year _ _ _ c.transitions_in.result (omega arith) c.transitions_in.ensures (simp (to_z-of_z {w = w64} {z = c.args.moment} (omega arith)) at c.loop-year.invariant)

pub loop-year-preserved : goal.loop-year-preserved
loop-year-preserved c =
    sym (begun _ c.transitions_in.result.0 _ _ (omega (arith, ints)) ∙ begun _ c.transitions_in.result.1 _ _ (omega (arith, ints)))
    ∙ with_pair _ _ c.loop-year.year _ _ _ c.transitions_in.result (omega arith) c.transitions_in.ensures c.loop-year.invariant

pub returns : goal.returns
returns c = after_all _ _ c.loop-year.year _ _ _ (omega arith) (simp (to_z-of_z {w = w64} {z = c.args.moment} (omega arith)) at c.loop-year.invariant)
