use Rattle.description_tree.specs.Description.{v3_tree}
use Rattle.parsing_components.specs.Component.{reads_component_v3}
use Rattle.parsing_components.proofs.lemmas.Tame.{component_tame_v3}
use Rattle.parsing_record.proofs.lemmas.Tame.{tree_tame}
use Rattle.parsing_parsable.proofs.TameLemmas.{end_of}
use Rattle.parsing_parsable.proofs.by_tree.FormatDescriptionV3Parsable.parse_into.Goals as goal

pub returns-clause-end : goal.returns-clause-end
returns-clause-end c = end_of c.args.input.now _ _ _ (tree_tame reads_component_v3 component_tame_v3 (v3_tree c.args.self.now) c.args.parsed.now c.args.input.now) c.in_ok-parse_tree.ensures.reads
