-- How much of a text is read by items at the start of others.
use Rattle.std.proofs.Common.{◌≡◌, ◌-◌, ◌≤◌, ℕ, List, [], ◌∷◌, length, take, drop, map, Option, Some, None, Ok, Err, refl, ◌∙◌, arith, length-drop}
use Rattle.std.specs.Prelude.{option_map}
use Rattle.std.specs.List.{prefix_len}
use Rattle.std.proofs.lemmas.List.{take-map, take_all}
use Rattle.std.proofs.lemmas.List.Sums.{prefix_len-le-length}
use Rattle.description_items.specs.Tree.{Tree, Literal, listed}
use Rattle.parsing_components.specs.declared.fields.Record.{Record}
use Rattle.parsing_components.specs.Component.{reads_component_v3}
use Rattle.parsing_record.specs.Meaning.{Answer}
use Rattle.parsing_record.specs.Record.{empty}
use Rattle.parsing_record.specs.Reads.{Language, reading_of_all}
use Rattle.instants_sources.specs.Grammar.{Described, Written, Items, V3}
use Rattle.instants_sources.specs.Written.{language_of}
use Rattle.instants_prefixes.specs.Ends.{text_length, AreEnds, by_texts, LiesIn, LeavesRest}
use Rattle.instants_prefixes.specs.Lengths.{is_silent, is_text, last_place, text_place, length_read, length_by, extent_by, extent_of, items_written}
use Rattle.instants_prefixes.specs.declared.ends.Ends.{Ends}
use Rattle.instants_prefixes.specs.declared.ends.Texts.{Texts}
use Rattle.instants_prefixes.specs.declared.extent.Extent.{Extent}
use Rattle.instants_prefixes.proofs.Turns.{more_texts, split_at, texts_read, by_items}

-- the counts are within the items
pub first_within : (items : List Tree) (ends : Ends) → AreEnds items ends → ends.first ≤ length items
first_within items ends are = omega (arith, are.first, prefix_len-le-length is_silent items)

pub written_within : (items : List Tree) (ends : Ends) → AreEnds items ends → ends.written ≤ length items
written_within items ends are = omega (arith, are.written, prefix_len-le-length is_text (drop (last_place items) items), length-drop (last_place items) items)

-- by reading again
pub reading_again : {X : Type 0} (language : Language) (tree : X → Tree) (nodes : List X) (ends : Ends) (text : List ℕ) → AreEnds (map tree nodes) ends
    → record { begins = length_by language text (map tree (take ends.first nodes)); up_to = length_by language text (map tree (take ends.last nodes)); written = length_by language text (map tree (take ends.written nodes)) } ≡ extent_by language text (map tree nodes)
reading_again language tree nodes ends text are = rw (are.first, are.last, are.written) (simp take-map)

-- ---- by the lengths of texts

all_texts : (items : List Tree) (long : ℕ) → text_length items ≡ Some long → prefix_len is_text items ≡ length items
all_texts [] long are = refl
all_texts (Literal text ∷ items) long are =
    let (rest, others, sum) = more_texts text (text_length items) long are in
    omega (arith, all_texts items rest others)
all_texts (t ∷ items) long are = absurd cc

texts_extent : (language : Language) (items : List Tree) (ends : Ends) (texts : Texts) (text rest : List ℕ) (set : Record) → AreEnds items ends → ends.texts ≡ Some texts → reading_of_all language (listed items) empty text ≡ Ok (set, rest) → by_texts (length text - length rest) texts ≡ extent_by language text items
texts_extent language items ends texts text rest set are is e =
    let (prefix, back) = are.texts texts is in
    let (front, first, after) = split_at language (prefix_len is_silent items) items empty text (set, rest) e in
    let (last, before, others) = split_at language (last_place items) items empty text (set, rest) e in
    let begins : texts.prefix ≡ length text - length front.1 = omega (arith, texts_read language _ texts.prefix empty text front prefix first) in
    let up_to : (length text - length rest) - texts.back ≡ length text - length last.1 = omega (arith, texts_read language _ texts.back last.0 last.1 (set, rest) back others) in
    let all : take (text_place items) items ≡ items = take_all (text_place items) items (omega (arith, all_texts (drop (last_place items) items) texts.back back, length-drop (last_place items) items)) in
    rw (first, before, all, e, begins, up_to) refl

written_read : (written : Written) (text rest : List ℕ) → LeavesRest (Described written) text rest → (set : Record) × (reading_of_all (language_of written) (listed (items_written written)) empty text ≡ Ok (set, rest))
written_read (Items items) text rest leaves = leaves
written_read (V3 tree) text rest (set, e) = (set, by_items reads_component_v3 tree empty text ∙ e)

-- by the lengths of texts in a text of which a description leaves the rest
pub described_extent : (written : Written) (ends : Ends) (text rest : List ℕ) (extent : Extent) → AreEnds (items_written written) ends → LeavesRest (Described written) text rest → Some extent ≡ option_map (by_texts (length text - length rest)) ends.texts → extent ≡ extent_of written text
described_extent written ends text rest extent are leaves e =
    elim ends.texts as (λ o. ends.texts ≡ o → extent ≡ extent_of written text) [
      | None ↦ λ is. let none : ◌≡◌ {A = Option Extent} (Some extent) None = rw is at e in absurd cc
      | Some texts ↦ λ is.
          let some : ◌≡◌ {A = Option Extent} (Some extent) (Some (by_texts (length text - length rest) texts)) = rw is at e in
          let (set, all) = written_read written text rest leaves in
          let same : extent ≡ by_texts (length text - length rest) texts = cc in
          same ∙ texts_extent (language_of written) (items_written written) ends texts text rest set are is all
    ] refl

-- an extent lies within the text
read_within : (text : List ℕ) (a : Answer) → length_read text a ≤ length text
read_within text (Ok read) = omega arith
read_within text (Err f) = omega arith

pub extent_within : (written : Written) (text : List ℕ) → LiesIn text (extent_of written text)
extent_within written text = (read_within text _, read_within text _, read_within text _)
