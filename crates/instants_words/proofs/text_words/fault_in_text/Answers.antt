use Rattle.std.proofs.Common.{rules}
use Rattle.instants_words.proofs.TextLemmas.{some_fault, no_fault}
use Rattle.instants_words.proofs.text_words.fault_in_text.Goals as goal

pub returns-clause-some : goal.returns-clause-some
returns-clause-some c = some_fault _ _ (search rules)

pub returns-clause-none : goal.returns-clause-none
returns-clause-none c = no_fault _ _ (search rules)
