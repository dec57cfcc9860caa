-- What the names of formats may be.
use Rattle.std.specs.Prelude.{ℕ, Bool, true, false, ◌&&◌, not, List, [], ◌∷◌, codes}
use Rattle.std.specs.Char.{is_ascii_lowercase}
use Rattle.std.specs.List.{list_any}
use Rattle.std.specs.Str.{bytes_eq}

-- a word is one of these
abbrev pub is_among : List (List ℕ) → List ℕ → Bool
is_among words word = list_any (bytes_eq word) words

-- no word stands twice among these
abbrev pub no_word_twice : List (List ℕ) → Bool
no_word_twice [] = true
no_word_twice (word ∷ words) = not (is_among words word) && no_word_twice words

-- a word begins with a small letter: with no sign and no digit
abbrev pub begins_small : List ℕ → Bool
begins_small [] = false
begins_small (byte ∷ bytes) = is_ascii_lowercase byte

-- the words that mean something else where sources are named
abbrev pub taken : List (List ℕ)
taken =
    codes "rfc3339" ∷ codes "rfc2822" ∷ codes "iso8601" ∷ codes "v1" ∷ codes "v2" ∷ codes "v3" ∷ codes "strftime" ∷
    codes "Z" ∷ codes "UTC" ∷ codes "year" ∷ codes "time" ∷ codes "label" ∷ []

-- a word that means nothing else, and can't be taken for an offset or a limit
abbrev pub is_free : List ℕ → Bool
is_free word = begins_small word && not (is_among taken word)

-- a word is one of the two languages of the table
abbrev pub is_language : List ℕ → Bool
is_language word = is_among (codes "v3" ∷ codes "strftime" ∷ []) word
