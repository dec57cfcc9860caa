use Rattle.description_grammar.proofs.Outcomes.{one_outcome_holds}
use Rattle.description_strftime.proofs.Outcomes as letters
use Rattle.description.proofs.laws.one_outcome.Goals as goal

pub returns-clause-versions : goal.returns-clause-versions
returns-clause-versions c = one_outcome_holds

pub returns-clause-strftime : goal.returns-clause-strftime
returns-clause-strftime c = letters.one_outcome_holds
