use Rattle.std.proofs.Common.{subst}
use Rattle.description_lexer.specs.Answer.{Gives}
use Rattle.description_items.specs.Tree.{trees}
use Rattle.description_strftime.proofs.Outcomes.{has_outcome}
use Rattle.description_strftime.proofs.Relations.{spelled_is_read, faulty_is_refused}
use Rattle.description_strftime.proofs.strftime.parse_strftime_borrowed.Goals as goal

pub returns-clause-outcome : goal.returns-clause-outcome
returns-clause-outcome c = has_outcome c.args.text.now c.items_of_strftime.result c.items_of_strftime.ensures.value

pub returns-clause-items : goal.returns-clause-items
returns-clause-items c = λ items h. subst (λ r. Gives (λ v. trees v.items) c.items_of_strftime.result r) (spelled_is_read c.args.text.now items h) c.items_of_strftime.ensures.value

pub returns-clause-fault : goal.returns-clause-fault
returns-clause-fault c = λ fault h. subst (λ r. Gives (λ v. trees v.items) c.items_of_strftime.result r) (faulty_is_refused c.args.text.now fault h) c.items_of_strftime.ensures.value
