-- What words say of sources.
use Rattle.std.specs.Prelude.{ℕ, ◌+◌, if◌then◌else◌, Option, None, Some, Result, Ok, Err, List, [], ◌∷◌, codes}
use Rattle.std.specs.Str.{bytes_eq}
use Rattle.instants_words.specs.declared.fault.WordsFault.{WordsFault}
use Rattle.instants_words.specs.declared.fault.WordsFault.TheVariants.{Source}
use Rattle.instants_words.specs.declared.sources.SourceText.{SourceText}
use Rattle.instants_words.specs.declared.sources.SourceText.TheVariants as text

-- what is said of a source: the text of a description in one of four languages, or a well-known format
pub data SourceSaid : Type 0 where
  V1 : List ℕ → SourceSaid
  V2 : List ℕ → SourceSaid
  V3 : List ℕ → SourceSaid
  Strftime : List ℕ → SourceSaid
  Rfc2822 : SourceSaid
  Rfc3339 : SourceSaid
  Iso8601 : SourceSaid

-- the same, without where a text lies in memory
abbrev pub said_by : SourceText → SourceSaid
said_by (text.V1 description) = V1 description.now
said_by (text.V2 description) = V2 description.now
said_by (text.V3 description) = V3 description.now
said_by (text.Strftime description) = Strftime description.now
said_by text.Rfc2822 = Rfc2822
said_by text.Rfc3339 = Rfc3339
said_by text.Iso8601 = Iso8601

-- a well-known format by its name
abbrev pub format_named : List ℕ → Option SourceSaid
format_named word =
    if bytes_eq word (codes "rfc2822") then Some Rfc2822
    else if bytes_eq word (codes "rfc3339") then Some Rfc3339
    else if bytes_eq word (codes "iso8601") then Some Iso8601
    else None

-- a language by its name
abbrev pub language_named : List ℕ → Option (List ℕ → SourceSaid)
language_named word =
    if bytes_eq word (codes "v1") then Some V1
    else if bytes_eq word (codes "v2") then Some V2
    else if bytes_eq word (codes "v3") then Some V3
    else if bytes_eq word (codes "strftime") then Some Strftime
    else None

abbrev pub also : SourceSaid → Result (List SourceSaid) WordsFault → Result (List SourceSaid) WordsFault
also source (Ok sources) = Ok (source ∷ sources)
also source (Err fault) = Err fault

-- the last word names a format
abbrev pub last_said : ℕ → Option SourceSaid → Result (List SourceSaid) WordsFault
last_said place (Some format) = Ok (format ∷ [])
last_said place None = Err (Source place)

-- a word names a format, with these sources after it, or a language, with its description and those sources after it
abbrev pub next_said : ℕ → Option SourceSaid → Option (List ℕ → SourceSaid) → List ℕ → Result (List SourceSaid) WordsFault → Result (List SourceSaid) WordsFault → Result (List SourceSaid) WordsFault
next_said place (Some format) language description after after_description = also format after
next_said place None (Some language) description after after_description = also (language description) after_description
next_said place None None description after after_description = Err (Source place)

-- sources by their words, the first of them in this place: a format is one word, a language and its description are two
unfoldable pub sources_said : ℕ → List (List ℕ) → Result (List SourceSaid) WordsFault
sources_said place [] = Ok []
sources_said place (word ∷ []) = last_said place (format_named word)
sources_said place (word ∷ next ∷ words) = next_said place (format_named word) (language_named word) next (sources_said (place + 1) (next ∷ words)) (sources_said (place + 1) words)
