-- A text that is a date and nothing else.
use Rattle.std.specs.Prelude.{◌≡◌, ◌<◌, ◌≤◌, ℕ, List, length, Some, Ok}
use Rattle.parsing_record.specs.Whole.{moment_named}
use Rattle.instants_sources.specs.Grammar.{Grammar}
use Rattle.instants_edges.specs.Pieces.{trimmed_length}
use Rattle.instants_prefixes.specs.Prefix.{prefix_at}
use Rattle.instants_prefixes.specs.Reading.{record_at}
use Rattle.instants_prefixes.specs.declared.given.Given.{Given}
use Rattle.instants_prefixes.specs.declared.prefix.Prefix.{Prefix}

-- a source reads all of a text, of at most 64 bytes, as a date that lacks nothing
pub record IsWholly (grammar : Grammar) (text : List ℕ) (prefix : Prefix) : Type 0 where
  pub some : 0 < length text
  pub short : length text ≤ 64
  pub reads : (given : Given) → prefix_at given grammar text ≡ Some prefix
  pub names : moment_named (record_at grammar text) ≡ Ok prefix.moment
  pub begins : prefix.begins ≡ 0
  pub all : prefix.all ≡ trimmed_length text
