-- What items read, and the moment of the record that all of the bytes set.
use Rattle.std.specs.Prelude.{ℕ, List, None, Some, Result}
use Rattle.datetime_wall.specs.Wall.{Shown}
use Rattle.description_items.specs.Tree.{Tree, listed}
use Rattle.parsing_components.specs.Component.{reads_component}
use Rattle.parsing_combinator.specs.Fault.{Fault}
use Rattle.parsing_record.specs.Meaning.{Counted, Meaning, all_of, meaning}
use Rattle.parsing_record.specs.Reads.{each_reads}
use Rattle.parsing_components.specs.declared.fields.Record.{Record}
use Rattle.parsing_record.specs.Whole.{whole, names, moment_named}

-- items, one after the other, as versions 1 and 2 and strftime write them
abbrev pub reads_in_turn : List Tree → Counted
reads_in_turn items = all_of (each_reads reads_component (listed items))

-- what the record names that all of the bytes set, beginning with defaults
abbrev pub staged : Meaning → Record → List ℕ → Result Shown Fault
staged m defaults bytes = names moment_named (whole m (Some defaults) bytes)

-- the moment of the record that all of the bytes set, without defaults
abbrev pub moment_by : Counted → List ℕ → Result Shown Fault
moment_by reading bytes = names moment_named (whole (meaning reading) None bytes)
