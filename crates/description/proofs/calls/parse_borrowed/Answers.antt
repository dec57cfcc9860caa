use Rattle.description_grammar.proofs.Outcomes.{has_outcome, gives_tree, gives_fault}
use Rattle.description.specs.Described.{described}
use Rattle.description.proofs.calls.parse_borrowed.Goals as goal

pub returns-clause-outcome : goal.returns-clause-outcome
returns-clause-outcome c = has_outcome described c.args.version c.args.s.now c.read.result c.read.ensures.value

pub returns-clause-tree : goal.returns-clause-tree
returns-clause-tree c = gives_tree described c.args.version c.args.s.now c.read.result c.read.ensures.value

pub returns-clause-fault : goal.returns-clause-fault
returns-clause-fault c = gives_fault described c.args.version c.args.s.now c.read.result c.read.ensures.value
