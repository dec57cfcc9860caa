use Rattle.std.proofs.Common.{◌∙◌}
use Rattle.calendar.proofs.LawLemmas.{same_weekday}
use Rattle.calendar.proofs.laws.weekday_and_back.Goals as goal

pub returns : goal.returns
returns c = same_weekday _ _ c.args.n (c.nth_prev.ensures ∙ c.nth_next.ensures)
