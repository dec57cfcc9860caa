-- What sources say to `instants` when the names of formats are spelled out.
use Rattle.std.proofs.Common.{◌≡◌, ◌<◌, ◌+◌, ℕ, true, false, Option, None, Some, Result, Ok, Err, List, [], ◌∷◌, ◌++◌, length, is_some, option_map, codes, if◌then◌else◌, refl, sym, ap, ◌∙◌, subst, arith}
use Rattle.std.specs.Prelude.{option_and_then}
use Rattle.std.specs.Option.{option_or}
use Rattle.std.specs.Str.{bytes_eq}
use Rattle.std.proofs.lemmas.Slice.Eq.{bytes_eq-Decides}
use Rattle.instants_formats.specs.Format.{FormatSaid}
use Rattle.instants_formats.specs.Named.{named_format}
use Rattle.instants_formats.specs.Table.{table}
use Rattle.instants_words.specs.FirstSource.{source_said}
use Rattle.instants_words.specs.Sources.{SourceSaid, V1, V2, V3, Strftime, Rfc2822, Rfc3339, Iso8601, format_named, language_named, sources_said}
use Rattle.instants_words.specs.Sources as theirs
use Rattle.instants_words.proofs.SourceLemmas.{step_some}
use Rattle.instants_lines_words.specs.Spelled.{in_place, spelled_out}
use Rattle.instants_lines_words.specs.Words.{◌or◌, ◌>>=◌, also, described, source_named, sources_read}
use Rattle.instants_lines_words.specs.Wrong.{Wrong, Source}

-- ---- words of formats and of languages

-- what holds of a name, and of a word that is found by others, holds of one that is found by any
if_named : {A : Type 0} (P : List ℕ → Type 0) (word name : List ℕ) (found : A) (others : Option A) → P name → (is_some others ≡ true → P word) → is_some (if bytes_eq word name then Some found else others) ≡ true → P word
if_named P word name found others here there is =
    elim (bytes_eq word name) as (λ b. bytes_eq word name ≡ b → is_some (if b then Some found else others) ≡ true → P word) [
      | true ↦ λ e h. subst P (sym ((bytes_eq-Decides word name).0 e)) here
      | false ↦ λ e h. there h
    ] refl is

-- a format has no other name, and is no language
pub format_alone : (word : List ℕ) → is_some (format_named word) ≡ true → (named_format word ≡ None) × (is_some (language_named word) ≡ false)
unfolding table
format_alone word is =
    let P : List ℕ → Type 0 = λ word. (named_format word ≡ None) × (is_some (language_named word) ≡ false) in
    if_named P word (codes "rfc2822") Rfc2822 _ (refl, refl) (if_named P word (codes "rfc3339") Rfc3339 _ (refl, refl) (if_named P word (codes "iso8601") Iso8601 None (refl, refl) (λ none. absurd cc))) is

-- a language is no format
language_alone : (word : List ℕ) → is_some (language_named word) ≡ true → format_named word ≡ None
language_alone word is =
    let P : List ℕ → Type 0 = λ word. format_named word ≡ None in
    if_named P word (codes "v1") V1 _ refl (if_named P word (codes "v2") V2 _ refl (if_named P word (codes "v3") V3 _ refl (if_named P word (codes "strftime") Strftime None refl (λ none. absurd cc)))) is

-- ---- the first source

in_language : (language description : List ℕ) (words : List (List ℕ)) (said : SourceSaid) (by : Option (List ℕ → SourceSaid)) → language_named language ≡ by → option_map (λ one. one description) by ≡ Some said
    → source_said (language ∷ description ∷ words) ≡ Some (said, words)
in_language language description words said None is e = absurd cc
in_language language description words said (Some by) is e = rw (language_alone language (ap is_some is), is) (ap (option_map (λ one. (one, words))) e)

by_itself : (word : List ℕ) (words : List (List ℕ)) (said : SourceSaid) (format : Option SourceSaid) (name : Option FormatSaid) → format_named word ≡ format → named_format word ≡ name
    → option_or format (option_and_then (λ one. described one.language one.description) name) ≡ Some said → source_said (in_place name word ++ words) ≡ Some (said, words)
by_itself word words said (Some format) name f n e = let none = sym n ∙ (format_alone word (ap is_some f)).0 in rw (none, f) (ap (option_map (λ one. (one, words))) e)
by_itself word words said None (Some format) f n e = in_language format.language format.description words said (language_named format.language) refl e
by_itself word words said None None f n e = absurd cc

-- ---- all sources

-- what is known where a source is read and those after it
record IsRead (one : Option SourceSaid) (others : Result (List SourceSaid) Wrong) (all : List SourceSaid) : Type 0 where
  source : SourceSaid
  rest : List SourceSaid
  said : one ≡ Some source
  reads : others ≡ Ok rest
  are : all ≡ source ∷ rest

is_read : (one : Option SourceSaid) (wrong : Wrong) (others : Result (List SourceSaid) Wrong) (all : List SourceSaid) → (one or wrong >>= (λ source. also source others)) ≡ Ok all → IsRead one others all
is_read (Some source) wrong (Ok rest) all e = record { source = source; rest = rest; said = refl; reads = refl; are = cc }
is_read (Some source) wrong (Err other) all e = absurd cc
is_read None wrong others all e = absurd cc

next : (place : ℕ) (these words : List (List ℕ)) (source : SourceSaid) (rest all : List SourceSaid) → source_said these ≡ Some (source, words) → sources_said (place + 1) words ≡ Ok rest → all ≡ source ∷ rest → sources_said place these ≡ Ok all
next place these words source rest all said reads are = step_some place these words source said ∙ ap (theirs.also source) reads ∙ ap Ok (sym are)

-- the language that stands before, where one does
abbrev with_language : Option (List ℕ) → List (List ℕ) → List (List ℕ)
with_language None words = words
with_language (Some language) words = language ∷ words

-- the sources that are read are those that their words say to `instants` when they are spelled out
pub spelled : (language : Option (List ℕ)) (place other : ℕ) (words : List (List ℕ)) (all : List SourceSaid) → sources_read language place words ≡ Ok all → sources_said other (with_language language (spelled_out (is_some language) words)) ≡ Ok all
unfolding sources_read spelled_out sources_said
spelled None place other [] all e = let same : [] ≡ all = cc in ap Ok same
spelled (Some language) place other [] all e = absurd cc
spelled (Some language) place other (description ∷ words) all e =
    let k = is_read _ _ _ all e in
    next other (language ∷ description ∷ spelled_out false words) (spelled_out false words) k.source k.rest all (in_language language description _ k.source _ refl k.said) (spelled None (place + 1) (other + 1) words k.rest k.reads) k.are
spelled None place other (word ∷ words) all e =
    elim (is_some (language_named word)) as (λ b. (if b then sources_read (Some word) place words else source_named word or Source place word >>= (λ source. also source (sources_read None (place + 1) words))) ≡ Ok all
    → sources_said other (if b then word ∷ spelled_out true words else in_place (named_format word) word ++ spelled_out false words) ≡ Ok all) [
      | true ↦ λ h. spelled (Some word) place other words all h
      | false ↦ λ h.
          let k = is_read _ _ _ all h in
          next other (in_place (named_format word) word ++ spelled_out false words) (spelled_out false words) k.source k.rest all (by_itself word _ k.source _ _ refl refl k.said) (spelled None (place + 1) (other + 1) words k.rest k.reads) k.are
    ] e

in_place_some : (format : Option FormatSaid) (word : List ℕ) (others : List (List ℕ)) → 0 < length (in_place format word ++ others)
in_place_some None word others = omega arith
in_place_some (Some format) word others = omega arith

pub spelled_some : (words : List (List ℕ)) → 0 < length words → 0 < length (spelled_out false words)
unfolding spelled_out
spelled_some [] some = absurd (omega arith)
spelled_some (word ∷ words) some =
    elim (is_some (language_named word)) as (λ b. 0 < length (if b then word ∷ spelled_out true words else in_place (named_format word) word ++ spelled_out false words)) [
      | true ↦ omega arith
      | false ↦ in_place_some (named_format word) word (spelled_out false words)
    ]
