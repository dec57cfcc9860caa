-- How many nodes a timeline has, and how many items are tried on a line.
use Rattle.std.specs.Prelude.{ℕ, ◌+◌, List, [], ◌∷◌, Option, Result, Ok, Err, sum_by, ℤ}
use Rattle.datetime_wall.specs.Wall.{Shown}
use Rattle.parsing_combinator.specs.Fault.{Fault}
use Rattle.instants_sources.specs.Grammar.{Grammar}
use Rattle.instants_sources.specs.Named.{named}
use Rattle.instants_sources.specs.Tried.{nodes_in, tried_by}

-- the nodes of all sources
abbrev pub nodes_in_all : List Grammar → ℕ
nodes_in_all grammars = sum_by nodes_in grammars

-- so many, unless a moment is named
abbrev pub unless_named : Result Shown Fault → ℕ → ℕ
unless_named (Ok moment) count = 0
unless_named (Err fault) count = count

-- the items that are tried on a line: by each source up to the first that names a moment, and by that one; by all sources where none does
unfoldable pub tried_on : Option ℤ → List Grammar → List ℕ → ℕ
tried_on assumed [] line = 0
tried_on assumed (grammar ∷ others) line = tried_by assumed grammar line + unless_named (named assumed grammar line) (tried_on assumed others line)
