use Rattle.description.proofs.Few.{items_few, letters_single}
use Rattle.parsing.proofs.node_laws.few_nodes.Goals as goal

pub returns-clause-items : goal.returns-clause-items
returns-clause-items c = items_few

pub returns-clause-strftime : goal.returns-clause-strftime
returns-clause-strftime c = letters_single
