-- What two descriptions read, one after the other.
use Rattle.std.specs.Prelude.{◌≡◌, ℕ, List}
use Rattle.description_items.specs.Tree.{Tree, listed}
use Rattle.parsing_combinator.specs.Readings.{then_read}
use Rattle.parsing_components.specs.Component.{reads_component, reads_component_v3}
use Rattle.parsing_components.specs.declared.fields.Record.{Record}
use Rattle.parsing_record.specs.Meaning.{Meaning}
use Rattle.parsing_record.specs.Reads.{reading, reading_of_all}

-- what the items of versions 1 and 2 and of strftime read, and what a tree of version 3 does
abbrev pub by_items : List Tree → Meaning
by_items items = reading_of_all reads_component (listed items)

abbrev pub by_tree : Tree → Meaning
by_tree tree = reading reads_component_v3 tree

-- one reading, and then another from the rest and the record that it leaves; a fault of either is that of both
abbrev pub in_turn : Meaning → Meaning → Meaning
in_turn one other r bytes = then_read (one r bytes) other

-- something is spelled by which reading is reading by the one and then by the other, from every record and input
abbrev pub IsReadInTurn : {A : Type 0} → (A → Type 0) → (A → Meaning) → A → A → Type 0
IsReadInTurn {A} Spelled by one other = (both : A) × Spelled both × ((r : Record) (bytes : List ℕ) → by both r bytes ≡ in_turn (by one) (by other) r bytes)
