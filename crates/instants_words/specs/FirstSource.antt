-- The first of several sources, and the words after it.
use Rattle.std.specs.Prelude.{ℕ, ◌+◌, Option, None, Some, Result, Ok, Err, List, [], ◌∷◌, length}
use Rattle.instants_words.specs.declared.fault.WordsFault.{WordsFault}
use Rattle.instants_words.specs.Sources.{SourceSaid, format_named, language_named}

abbrev pub first_said : Option SourceSaid → Option (List ℕ → SourceSaid) → List (List ℕ) → Option (SourceSaid × List (List ℕ))
first_said (Some format) language words = Some (format, words)
first_said None (Some language) (description ∷ words) = Some (language description, words)
first_said None (Some language) [] = None
first_said None None words = None

-- a format is one word, a language and its description are two
abbrev pub source_said : List (List ℕ) → Option (SourceSaid × List (List ℕ))
source_said [] = None
source_said (word ∷ words) = first_said (format_named word) (language_named word) words

-- how many sources are said, after so many
abbrev pub counted : ℕ → Result (List SourceSaid) WordsFault → Result ℕ WordsFault
counted before (Ok sources) = Ok (before + length sources)
counted before (Err fault) = Err fault
