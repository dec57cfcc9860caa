-- The prefix of bytes that a source reads.
use Rattle.std.specs.Prelude.{ℕ, ◌-◌, List, length, take, Option, option_map}
use Rattle.datetime_wall.specs.Wall.{Shown}
use Rattle.instants_sources.specs.Grammar.{Grammar}
use Rattle.instants_edges.specs.Pieces.{trimmed_length}
use Rattle.instants_prefixes.specs.Given.{Given}
use Rattle.instants_prefixes.specs.Reading.{text_for, prefix_named}
use Rattle.instants_prefixes.specs.Lengths.{Lengths, lengths}
use Rattle.instants_prefixes.specs.declared.prefix.Prefix.{Prefix}

-- a prefix with these lengths, by its moment and by what stands after it
abbrev pub with_lengths : List ℕ → Shown → List ℕ → Lengths → Prefix
with_lengths text moment rest long =
    record { moment = moment; begins = long.begins; ends = long.ends; zone = long.zone; all = trimmed_length (take (length text - length rest) text); is_chosen = long.is_chosen }

abbrev pub prefix_in : Grammar → List ℕ → Option (Shown × List ℕ) → Option Prefix
prefix_in grammar text = option_map (λ prefix. with_lengths text prefix.0 prefix.1 (lengths grammar text prefix.1))

-- the prefix of the bytes that a source reads
unfoldable pub prefix_at : Given → Grammar → List ℕ → Option Prefix
prefix_at given grammar bytes = let text = text_for grammar bytes in prefix_in grammar text (prefix_named given grammar text)
