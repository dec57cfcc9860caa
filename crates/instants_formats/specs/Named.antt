-- A format by its name.
use Rattle.std.specs.Prelude.{ℕ, Bool, List, Option}
use Rattle.std.specs.List.{find}
use Rattle.std.specs.Str.{bytes_eq}
use Rattle.instants_formats.specs.Format.{FormatSaid}
use Rattle.instants_formats.specs.Table.{table}

abbrev pub has_name : List ℕ → FormatSaid → Bool
has_name word format = bytes_eq format.name word

-- the first format of the table with this name
abbrev pub named_format : List ℕ → Option FormatSaid
named_format word = find (has_name word) table
