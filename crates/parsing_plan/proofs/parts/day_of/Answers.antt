use Rattle.parsing_plan.proofs.parts.day_of.Goals as goal

pub spaced_day-requires-clause-bytes : goal.spaced_day-requires-clause-bytes
spaced_day-requires-clause-bytes c = c.requires.spaced c.in-Some.place c.in-Some.is
