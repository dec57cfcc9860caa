use Rattle.instants_answers.proofs.MonthLemmas.{month_at}
use Rattle.instants_answers.proofs.digits.month_text.Goals as goal

pub returns : goal.returns
returns c = month_at c.args.month c.requires
