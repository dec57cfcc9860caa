-- Names of formats, spelled out.
use Rattle.std.specs.Prelude.{ℕ, Bool, not, ◌||◌, ◌++◌, List, [], ◌∷◌, Option, None, Some, is_some, if◌then◌else◌}
use Rattle.instants_formats.specs.Named.{named_format}
use Rattle.instants_formats.specs.Format.{FormatSaid}
use Rattle.instants_words.specs.Sources.{language_named}

-- a format's language and its description, in place of its name
abbrev pub in_place : Option FormatSaid → List ℕ → List (List ℕ)
in_place None word = word ∷ []
in_place (Some format) word = format.language ∷ format.description ∷ []

-- a word stays as it is: a description, or the name of a language
abbrev pub stays : Bool → List ℕ → Bool
stays is_description word = is_description || is_some (language_named word)

-- the words of sources with the language and the description of each format in place of its name; what stands after a language is a description, and the first word may be one
unfoldable pub spelled_out : Bool → List (List ℕ) → List (List ℕ)
spelled_out is_description [] = []
spelled_out is_description (word ∷ words) =
    if stays is_description word then word ∷ spelled_out (not is_description) words else in_place (named_format word) word ++ spelled_out is_description words
