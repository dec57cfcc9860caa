-- What stands in a list of items before the first that says something and after the last that does.
use Rattle.std.specs.Prelude.{◌≡◌, ℕ, ◌+◌, ◌-◌, ◌≤◌, List, [], ◌∷◌, length, drop, Option, None, Some, option_map, Ok}
use Rattle.std.specs.List.{prefix_len}
use Rattle.std.specs.Option.{ForSome}
use Rattle.description_items.specs.Tree.{Tree, Literal}
use Rattle.parsing_components.specs.declared.fields.Record.{Record}
use Rattle.parsing_record.specs.Record.{empty}
use Rattle.instants_sources.specs.Grammar.{Grammar, Described}
use Rattle.instants_sources.specs.Reading.{reading_of}
use Rattle.instants_prefixes.specs.Lengths.{is_silent, before_first, last_place, text_place, items_written}
use Rattle.instants_prefixes.specs.declared.ends.Ends.{Ends}
use Rattle.instants_prefixes.specs.declared.ends.Texts.{Texts}
use Rattle.instants_prefixes.specs.declared.extent.Extent.{Extent}

-- how long the items are together, where all are texts
abbrev pub text_length : List Tree → Option ℕ
text_length [] = Some 0
text_length (Literal text ∷ others) = option_map (λ n. length text + n) (text_length others)
text_length _ = None

-- the places of items, and how long the texts before the first and after the last are together
pub record AreEnds (items : List Tree) (ends : Ends) : Type 0 where
  pub first : ends.first ≡ prefix_len is_silent items
  pub last : ends.last ≡ last_place items
  pub written : ends.written ≡ text_place items
  pub texts : ForSome ends.texts (λ texts. (text_length (before_first items) ≡ Some texts.prefix) × (text_length (drop (last_place items) items) ≡ Some texts.back))

-- the items of a source; the well-known formats have none
abbrev pub items_in : Grammar → List Tree
items_in (Described written) = items_written written
items_in _ = []

-- the extent by the lengths of the texts, where so many bytes were read in all
abbrev pub by_texts : ℕ → Texts → Extent
by_texts read texts = record { begins = texts.prefix; up_to = read - texts.back; written = read }

-- an extent lies within the text
abbrev pub LiesIn : List ℕ → Extent → Type 0
LiesIn text extent = (extent.begins ≤ length text) × (extent.up_to ≤ length text) × (extent.written ≤ length text)

-- a source reads a prefix of the text, and this stands after it
abbrev pub LeavesRest : Grammar → List ℕ → List ℕ → Type 0
LeavesRest grammar text rest = (set : Record) × (reading_of grammar empty text ≡ Ok (set, rest))
