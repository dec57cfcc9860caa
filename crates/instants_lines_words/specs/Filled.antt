-- The words after the mode, with what is taken where some are left out: a target, an assumed offset or a zone in its place, and a limit, then a year, a time, a field, a column, a separator and a label, each after its name, and then the sources.
use Rattle.std.specs.Prelude.{ℕ, Bool, false, not, ◌||◌, ◌&&◌, ◌==◌, if◌then◌else◌, Option, None, Some, is_some, unwrap_or, List, [], ◌∷◌, codes}
use Rattle.std.specs.Char.{is_ascii_digit}
use Rattle.std.specs.List.{list_any}
use Rattle.std.specs.Str.{bytes_eq}
use Rattle.base.specs.Bytes.{plus, hyphen, colon}
use Rattle.instants_lines_words.specs.FileName.{is_file_name}
use Rattle.instants_lines_words.specs.Spelled.{spelled_out}

-- UTC by its names
unfoldable pub is_utc : List ℕ → Bool
is_utc word = bytes_eq word (codes "Z") || bytes_eq word (codes "UTC")

-- a word begins with a sign or a digit
unfoldable pub has_sign_or_digit : List ℕ → Bool
has_sign_or_digit [] = false
has_sign_or_digit (first ∷ rest) = first == plus || first == hyphen || is_ascii_digit first

-- a word is an offset or a limit, and no source, by its looks; `OFFSET` stands for an offset that is still to be said
unfoldable pub is_setting : List ℕ → Bool
is_setting word = has_sign_or_digit word || is_utc word || bytes_eq word (codes "OFFSET")

-- the first word where it is such a word, and the words after it
abbrev pub setting_first : List (List ℕ) → Option (List ℕ) × List (List ℕ)
setting_first [] = (None, [])
setting_first (word ∷ words) = if is_setting word then (Some word, words) else (None, word ∷ words)

-- UTC as an offset
unfoldable pub as_offset : List ℕ → List ℕ
as_offset word = if is_utc word then codes "+00:00" else word

-- the target: the first word, or UTC
unfoldable pub target_in : List (List ℕ) → List ℕ
target_in words = as_offset (unwrap_or (setting_first words).0 (codes "+00:00"))

-- a word begins with a colon
abbrev pub has_colon_before : List ℕ → Bool
has_colon_before [] = false
has_colon_before (first ∷ rest) = first == colon

-- a word is a zone by its looks: it begins with a colon, or it has a slash and is no name of a file
unfoldable pub is_zone : List ℕ → Bool
is_zone word = has_colon_before word || (list_any (λ b. b == 47) word && not (is_file_name word))

-- after a target the first word where it is an offset or a zone, and the words after it; where no target is there none
abbrev pub assumed_after : Bool → List (List ℕ) → Option (List ℕ) × List (List ℕ)
assumed_after has_target [] = (None, [])
assumed_after has_target (word ∷ words) = if has_target && (is_setting word || is_zone word) then (Some word, words) else (None, word ∷ words)

-- the word for what is assumed: the second word, and the words after the target and it
unfoldable pub assumed_first : List (List ℕ) → Option (List ℕ) × List (List ℕ)
assumed_first words = assumed_after (is_some (setting_first words).0) (setting_first words).1

-- the assumed offset that a word says: UTC for a zone, and none where there is no word
abbrev pub assumed_by : Option (List ℕ) → List ℕ
assumed_by None = codes "-"
assumed_by (Some word) = if is_setting word then as_offset word else codes "+00:00"

-- the assumed offset
unfoldable pub assumed_in : List (List ℕ) → List ℕ
assumed_in words = assumed_by (assumed_first words).0

-- a word without the colon that it may begin with
abbrev pub without_colon : List ℕ → List ℕ
without_colon [] = []
without_colon (first ∷ rest) = if first == colon then rest else first ∷ rest

-- the name of the zone that a word says, where it is no offset
abbrev pub zone_by : Option (List ℕ) → Option (List ℕ)
zone_by None = None
zone_by (Some word) = if is_setting word then None else Some (without_colon word)

-- the name of the zone that stands in place of the assumed offset
unfoldable pub zone_in : List (List ℕ) → Option (List ℕ)
zone_in words = zone_by (assumed_first words).0

-- the same, of words with a mode in front
unfoldable pub zone_named : List (List ℕ) → Option (List ℕ)
zone_named [] = None
zone_named (mode ∷ words) = zone_in words

-- the third word, where all three are there, and the words after those that are
abbrev pub limit_first : List (List ℕ) → Option (List ℕ) × List (List ℕ)
limit_first words = setting_first (assumed_first words).1

-- the limit: the third word, or the greatest
unfoldable pub limit_in : List (List ℕ) → List ℕ
limit_in words = unwrap_or (limit_first words).0 (codes "1048576")

-- whether none of the three is left out
unfoldable pub is_whole : List (List ℕ) → Bool
is_whole words = is_some (limit_first words).0

-- the first word, where there is one, and the words after it
abbrev pub first_and_others : List (List ℕ) → Option (List ℕ) × List (List ℕ)
first_and_others [] = (None, [])
first_and_others (word ∷ words) = (Some word, words)

-- the word after a name, where the first word is this name, and the words after both
abbrev pub named_first : List ℕ → List (List ℕ) → Option (List ℕ) × List (List ℕ)
named_first name [] = (None, [])
named_first name (word ∷ words) = if bytes_eq word name then first_and_others words else (None, word ∷ words)

-- the year, which stands after its name, and the words after it
unfoldable pub year_first : List (List ℕ) → Option (List ℕ) × List (List ℕ)
year_first words = named_first (codes "year") (limit_first words).1

-- the time of day, which stands after its name, and the words after it
unfoldable pub time_first : List (List ℕ) → Option (List ℕ) × List (List ℕ)
time_first words = named_first (codes "time") (year_first words).1

-- the name of a field, which stands after the word `field`, and the words after it
unfoldable pub field_first : List (List ℕ) → Option (List ℕ) × List (List ℕ)
field_first words = named_first (codes "field") (time_first words).1

-- the number of a column, and what stands between columns, each after its name, and the words after it
unfoldable pub column_first : List (List ℕ) → Option (List ℕ) × List (List ℕ)
column_first words = named_first (codes "column") (field_first words).1

unfoldable pub separator_first : List (List ℕ) → Option (List ℕ) × List (List ℕ)
separator_first words = named_first (codes "separator") (column_first words).1

-- the label, which stands after its name, and the sources, which are all words after these
unfoldable pub label_first : List (List ℕ) → Option (List ℕ) × List (List ℕ)
label_first words = named_first (codes "label") (separator_first words).1

-- all of it, as the words of `instants`: names of formats are spelled out
unfoldable pub filled : List (List ℕ) → List (List ℕ)
filled words = target_in words ∷ assumed_in words ∷ limit_in words ∷ spelled_out false (label_first words).1
