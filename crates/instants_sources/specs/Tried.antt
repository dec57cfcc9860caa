-- How many nodes a source has, and how many of them a reading of a line begins.
use Rattle.std.specs.Prelude.{ℕ, List, Option, ℤ}
use Rattle.parsing_record.specs.Whole.{starting}
use Rattle.instants_sources.specs.Grammar.{Grammar, Described}
use Rattle.instants_sources.specs.Named.{defaults_of}
use Rattle.instants_sources.specs.Written.{counted, nodes_written}

-- the nodes of a source: all of what it reads by; a well-known format is one
abbrev pub nodes_in : Grammar → ℕ
nodes_in (Described written) = nodes_written written
nodes_in _ = 1

-- the items that a source tries on a line: all whose reading begins, with an offset assumed or none; a well-known format is one
abbrev pub tried_by : Option ℤ → Grammar → List ℕ → ℕ
tried_by assumed (Described written) line = (counted written (starting (defaults_of assumed)) line).1
tried_by assumed _ line = 1
