-- A reading of a line begins each node of a source at most once.
use Rattle.std.proofs.Common.{ℕ, ◌≤◌, List, Option, ℤ, arith}
use Rattle.description_items.specs.Tree.{listed}
use Rattle.parsing_components.specs.Component.{reads_component, reads_component_v3}
use Rattle.parsing_parsable.proofs.Tried.{tree_tried, in_turn_tried}
use Rattle.instants_sources.specs.Grammar.{Grammar, Described, Items, V3}
use Rattle.parsing_record.specs.Whole.{starting}
use Rattle.instants_sources.specs.Named.{defaults_of}
use Rattle.instants_sources.specs.Tried.{nodes_in, tried_by}

pub tried_by-le : (assumed : Option ℤ) (grammar : Grammar) (line : List ℕ) → tried_by assumed grammar line ≤ nodes_in grammar
tried_by-le assumed (Described (Items items)) line = in_turn_tried reads_component (listed items) (starting (defaults_of assumed)) line
tried_by-le assumed (Described (V3 tree)) line = tree_tried reads_component_v3 tree (starting (defaults_of assumed)) line
tried_by-le assumed grammar line = omega arith
