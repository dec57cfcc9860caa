use Rattle.std.proofs.Common.{arith, inl, inr}
use Rattle.parsing_shapes.proofs.FrontLemmas.{day_spaced}
use Rattle.parsing_plan.proofs.parts.spaced_day.Goals as goal

pub returns : goal.returns
returns c = rw c.requires.ones (day_spaced c.args.line.now c.args.place c.args.ones c.requires.bytes (elim c.else-first-gt32.either [ inl both ↦ inl both.1 | inr low ↦ inr (omega (arith, low, c.requires.bytes.first_low)) ]))
