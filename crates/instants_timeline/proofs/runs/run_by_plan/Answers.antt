use Rattle.instants_timeline.proofs.runs.run_by_plan.Goals as goal

pub run_by-requires-clause-led : goal.run_by-requires-clause-led
run_by-requires-clause-led g c = ∣ (rw (← c.at.ensures.plan, c.in-Plain.is) at c.requires.led, tt) ∣₁

pub run_by-requires-in-Whole-clause-led : goal.run_by-requires-in-Whole-clause-led
run_by-requires-in-Whole-clause-led g c = ∣ (rw (← c.at.ensures.plan, c.in-Whole.is) at c.requires.led, rw (c.in-Whole.is, c.assumed.ensures) at c.at.ensures.assumed) ∣₁

pub run_by-requires-in-Split-clause-led : goal.run_by-requires-in-Split-clause-led
run_by-requires-in-Split-clause-led g c = ∣ (rw (← c.at.ensures.plan, c.in-Split.is) at c.requires.led, rw (c.in-Split.is, c.assumed.ensures) at c.at.ensures.assumed) ∣₁

pub run_by-requires-in-Unix-clause-led : goal.run_by-requires-in-Unix-clause-led
run_by-requires-in-Unix-clause-led g c = ∣ (rw (← c.at.ensures.plan, c.in-Unix.is) at c.requires.led, tt) ∣₁

pub run_by-requires-in-Listed-clause-led : goal.run_by-requires-in-Listed-clause-led
run_by-requires-in-Listed-clause-led g c = ∣ (rw (← c.at.ensures.plan, c.in-Listed.is) at c.requires.led, rw (c.in-Listed.is, c.assumed.ensures) at c.at.ensures.assumed) ∣₁

pub run_by-requires-in-Other-clause-led : goal.run_by-requires-in-Other-clause-led
run_by-requires-in-Other-clause-led g c = ∣ (rw (← c.at.ensures.plan, c.in-Other.is) at c.requires.led, tt) ∣₁
