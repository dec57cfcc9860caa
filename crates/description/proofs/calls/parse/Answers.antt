use Rattle.description_items.specs.Tree.{trees}
use Rattle.description_lexer.specs.declared.version.DescriptionVersion.TheVariants.{One}
use Rattle.description_grammar.specs.Reading.{read_items}
use Rattle.description_grammar.proofs.Outcomes.{as_tree, has_outcome, gives_tree, gives_fault}
use Rattle.description.specs.Described.{items_tree}
use Rattle.description.proofs.calls.parse.Goals as goal

pub returns-clause-outcome : goal.returns-clause-outcome
returns-clause-outcome c = has_outcome items_tree One c.args.s.now c.items_of.result (as_tree (λ v. trees v.items) c.items_of.result (read_items One c.args.s.now) c.items_of.ensures.value)

pub returns-clause-tree : goal.returns-clause-tree
returns-clause-tree c = gives_tree items_tree One c.args.s.now c.items_of.result (as_tree (λ v. trees v.items) c.items_of.result (read_items One c.args.s.now) c.items_of.ensures.value)

pub returns-clause-fault : goal.returns-clause-fault
returns-clause-fault c = gives_fault items_tree One c.args.s.now c.items_of.result (as_tree (λ v. trees v.items) c.items_of.result (read_items One c.args.s.now) c.items_of.ensures.value)
