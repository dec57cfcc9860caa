-- Where in the prefix that a source reads its date begins and ends.
use Rattle.std.specs.Prelude.{ℕ, ◌+◌, ◌-◌, not, nat_lt, Bool, true, false, List, [], ◌∷◌, length, take, drop, Ok, Err}
use Rattle.std.specs.List.{prefix_len, suffix_len}
use Rattle.description_items.specs.Tree.{Tree, Trees, Literal, Compound, none, also, listed}
use Rattle.parsing_record.specs.Meaning.{Answer}
use Rattle.parsing_record.specs.Record.{empty}
use Rattle.parsing_record.specs.Reads.{Language, reading_of_all}
use Rattle.instants_sources.specs.Grammar.{Grammar, Described, Written, Items, V3}
use Rattle.instants_sources.specs.Written.{language_of}
use Rattle.instants_edges.specs.Pieces.{blanks, trimmed_length, zone_length}
use Rattle.instants_prefixes.specs.Kinds.{is_saying}
use Rattle.instants_prefixes.specs.Reading.{has}
use Rattle.instants_prefixes.specs.declared.extent.Extent.{Extent}

-- ---- the items of a source

abbrev pub children : Trees → List Tree
children none = []
children (also t ts) = t ∷ children ts

-- a tree of version 3 is its items one after another, or one item
abbrev pub items_of : Tree → List Tree
items_of (Compound ts) = children ts
items_of t = t ∷ []

-- the items of a description
abbrev pub items_written : Written → List Tree
items_written (Items items) = items
items_written (V3 tree) = items_of tree

abbrev pub is_silent : Tree → Bool
is_silent t = not (has true is_saying t)

abbrev pub is_text : Tree → Bool
is_text (Literal text) = true
is_text _ = false

-- the items before the first that says something
abbrev pub before_first : List Tree → List Tree
before_first items = take (prefix_len is_silent items) items

-- how many come up to the last that does
abbrev pub last_place : List Tree → ℕ
last_place items = length items - suffix_len is_silent items

-- how many come up to it and the texts after it
abbrev pub text_place : List Tree → ℕ
text_place items = last_place items + prefix_len is_text (drop (last_place items) items)

-- ---- how much they read

-- how many bytes were read
abbrev pub length_read : List ℕ → Answer → ℕ
length_read text (Ok read) = length text - length read.1
length_read text (Err fault) = 0

abbrev pub length_by : Language → List ℕ → List Tree → ℕ
length_by language text items = length_read text (reading_of_all language (listed items) empty text)

-- by the items before the first, up to the last, and with the texts after it
abbrev pub extent_by : Language → List ℕ → List Tree → Extent
extent_by language text items = record { begins = length_by language text (before_first items); up_to = length_by language text (take (last_place items) items); written = length_by language text (take (text_place items) items) }

abbrev pub extent_of : Written → List ℕ → Extent
extent_of written text = extent_by (language_of written) text (items_written written)

-- ---- the lengths

-- lengths from the place at which a date is read: where it begins and ends to say something, and where the word of a zone in the text of its description ends; and whether text stands before it in its description
pub record Lengths : Type 0 where
  pub begins : ℕ
  pub ends : ℕ
  pub zone : ℕ
  pub is_chosen : Bool

abbrev pub lengths_from : List ℕ → Extent → Lengths
lengths_from text extent =
    let ends = trimmed_length (take extent.up_to text) in
    record { begins = extent.begins + blanks (drop extent.begins text); ends = ends; zone = ends + zone_length (drop ends (take extent.written text)); is_chosen = nat_lt 0 extent.begins }

-- the whole prefix, without white space at its end
abbrev pub whole : ℕ → Lengths
whole long = record { begins = 0; ends = long; zone = long; is_chosen = false }

-- the lengths at the start of a text that is read, by what stands after the prefix
unfoldable pub lengths : Grammar → List ℕ → List ℕ → Lengths
lengths (Described written) text rest = lengths_from text (extent_of written text)
lengths _ text rest = whole (trimmed_length (take (length text - length rest) text))
