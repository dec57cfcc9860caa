use Rattle.std.proofs.Common.{◌∙◌}
use Rattle.calendar.proofs.LawLemmas.{same_month}
use Rattle.calendar.proofs.laws.month_and_back.Goals as goal

pub returns : goal.returns
returns c = same_month _ _ c.args.n (c.nth_prev.ensures ∙ c.nth_next.ensures)
