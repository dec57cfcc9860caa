use Rattle.parsing_components.specs.Component.{reads_component}
use Rattle.parsing.proofs.InTurn.{items_in_turn, trees_in_turn}
use Rattle.parsing.proofs.Letters.{letters_in_turn}
use Rattle.parsing.proofs.descriptions.joined_descriptions.Goals as goal

pub returns-clause-versions : goal.returns-clause-versions
returns-clause-versions c = items_in_turn c.joined.ensures reads_component

pub returns-clause-strftime : goal.returns-clause-strftime
returns-clause-strftime c = letters_in_turn c.joined-2.ensures.holds

pub returns-clause-trees : goal.returns-clause-trees
returns-clause-trees c = trees_in_turn c.joined.ensures
