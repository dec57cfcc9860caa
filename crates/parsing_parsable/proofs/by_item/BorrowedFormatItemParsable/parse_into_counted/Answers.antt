use Rattle.description_items.specs.Tree.{tree_of}
use Rattle.parsing_components.specs.Component.{reads_component}
use Rattle.parsing_components.proofs.lemmas.Tame.{component_tame}
use Rattle.parsing_record.proofs.lemmas.Tame.{tree_tame}
use Rattle.parsing_parsable.proofs.TameLemmas.{end_of}
use Rattle.parsing_parsable.proofs.by_item.BorrowedFormatItemParsable.parse_into_counted.Goals as goal

pub returns-in-Ok-clause-end : goal.returns-in-Ok-clause-end
returns-in-Ok-clause-end c = end_of c.args.input.now _ _ _ (tree_tame reads_component component_tame (tree_of c.args.self.now) c.args.parsed.now c.args.input.now) c.in-Ok.ensures.reads
