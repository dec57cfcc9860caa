-- What a description has, and what it reads.
use Rattle.std.specs.Prelude.{ℕ, List}
use Rattle.description.specs.Laws.{nodes, all_nodes}
use Rattle.description.specs.declared.described.Description.{Description}
use Rattle.description.specs.declared.described.Description.TheVariants as description
use Rattle.description_items.specs.Tree.{Tree, listed, trees}
use Rattle.description_tree.specs.Description.{v3_tree}
use Rattle.parsing_components.specs.Component.{reads_component, reads_component_v3}
use Rattle.parsing_parsable.specs.Moment.{reads_in_turn}
use Rattle.parsing_record.specs.Meaning.{Counted, Meaning, meaning}
use Rattle.parsing_record.specs.Reads.{Language, reads}

pub data Written : Type 0 where
  -- items, one after the other, of version 1, version 2 or strftime
  Items : List Tree → Written
  -- a tree of version 3
  V3 : Tree → Written

-- what a description has, without where it lies in memory
abbrev pub written : Description → Written
written (description.Items items) = Items (trees items.items)
written (description.V3 tree) = V3 (v3_tree tree)

-- its nodes
abbrev pub nodes_written : Written → ℕ
nodes_written (Items items) = all_nodes (listed items)
nodes_written (V3 tree) = nodes tree

-- how its components are read
abbrev pub language_of : Written → Language
language_of (Items items) = reads_component
language_of (V3 tree) = reads_component_v3

-- what it reads into a record, and how many items it begins
abbrev pub counted : Written → Counted
counted (Items items) = reads_in_turn items
counted (V3 tree) = reads reads_component_v3 tree

-- what it reads alone
abbrev pub reads_written : Written → Meaning
reads_written written = meaning (counted written)
