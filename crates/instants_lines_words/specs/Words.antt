-- What the words of the program say: a mode, and after it what the words of `instants` say, of which some may be left out, where a zone may stand in place of the assumed offset, and before the sources a year, a time, a part of each line and a label.
use Rattle.std.specs.Prelude.{ℕ, ◌+◌, ◌*◌, ◌==◌, ◌||◌, ◌&&◌, not, Bool, true, false, nat_lt, nat_le, List, [], ◌∷◌, length, slice_index, Option, None, Some, is_some, option_map, option_and_then, unwrap_or, codes, Result, Ok, Err, if◌then◌else◌, ℤ, pos}
use Rattle.std.specs.List.{list_all}
use Rattle.std.specs.Option.{option_or, ok_or}
use Rattle.std.specs.Result.{result_map_both}
use Rattle.std.specs.Str.{bytes_eq}
use Rattle.base.specs.Bytes.{colon, tab, line_feed}
use Rattle.instants_formats.specs.Named.{named_format}
use Rattle.instants_words.specs.Pieces.{number_said, offset_said, assumed_said, limit_said}
use Rattle.instants_words.specs.Sources.{SourceSaid, format_named, language_named}
use Rattle.instants_words.specs.declared.words.Words.{Words}
use Rattle.zones.specs.Name.{is_name_byte}
use Rattle.instants_lines_words.specs.Filled.{target_in, assumed_in, limit_in, zone_in, year_first, time_first, field_first, column_first, separator_first, label_first, is_whole}
use Rattle.instants_lines_words.specs.Modes.{mode_said}
use Rattle.instants_lines_words.specs.Wrong.{Wrong, NoMode, UnknownMode, NoSource, Target, Assumed, Limit, Zone, Year, Time, Field, Column, Separator, Label, Source, FirstSource, NoDescription}
use Rattle.instants_lines_words.specs.Part.{PartSaid, InField, InColumn}
use Rattle.instants_lines_words.specs.Asked.{Asking}
use Rattle.instants_lines_words.specs.declared.mode.Mode.{Mode}
use Rattle.instants_lines_words.specs.declared.mode.Mode.TheVariants.{Key, Carry, Explain}

-- what a word says, or else this is wrong
infixl 12 ◌or◌
abbrev pub ◌or◌ : {A : Type 0} → Option A → Wrong → Result A Wrong
said or wrong = ok_or said wrong

-- one thing and then the next, up to the first that is wrong
infixl 10 ◌>>=◌
abbrev pub ◌>>=◌ : {A B : Type 0} → Result A Wrong → (A → Result B Wrong) → Result B Wrong
(Ok said) >>= next = next said
(Err wrong) >>= next = Err wrong

-- a target, an assumed offset and a limit
abbrev pub settings_said : List ℕ → List ℕ → List ℕ → Result (ℤ × Option ℤ × ℕ) Wrong
settings_said target_word assumed_word limit_word = do
  target ← offset_said target_word or Target target_word
  assumed ← assumed_said assumed_word or Assumed assumed_word
  limit ← limit_said limit_word or Limit limit_word
  Ok (target, assumed, limit)

-- ---- sources

-- the source that a language and a description in it say
abbrev pub described : List ℕ → List ℕ → Option SourceSaid
described language description = option_map (λ said. said description) (language_named language)

-- the source that one word says: a well-known format, or one that has a name
abbrev pub source_named : List ℕ → Option SourceSaid
source_named word = option_or (format_named word) (option_and_then (λ format. described format.language format.description) (named_format word))

abbrev pub also : SourceSaid → Result (List SourceSaid) Wrong → Result (List SourceSaid) Wrong
also source others = others >>= (λ sources. Ok (source ∷ sources))

-- sources by their words, the first of them in this place, or the first that is wrong; its description stands first where its language is given
unfoldable pub sources_read : Option (List ℕ) → ℕ → List (List ℕ) → Result (List SourceSaid) Wrong
sources_read None place [] = Ok []
sources_read (Some language) place [] = Err (NoDescription place language)
sources_read (Some language) place (word ∷ words) = described language word or NoDescription place language >>= (λ source. also source (sources_read None (place + 1) words))
sources_read None place (word ∷ words) =
    if is_some (language_named word) then sources_read (Some word) place words
    else source_named word or Source place word >>= (λ source. also source (sources_read None (place + 1) words))

-- where an offset or a limit is left out, the first source may be one that is misspelt
abbrev pub first_wrong : Bool → Wrong → Wrong
first_wrong false (Source place word) = if place == 1 then FirstSource word else Source place word
first_wrong whole wrong = wrong

-- ---- a zone, a year, a time, a part and a label

-- a zone's name has 1 to 64 letters, digits, `_`, `+`, `-` and `/`, and no slash first
unfoldable pub is_zone_name : List ℕ → Bool
is_zone_name word = nat_lt 0 (length word) && nat_le (length word) 64 && not (slice_index word 0 == 47) && list_all is_name_byte word

-- in these modes dates are found in lines; where lines are explained each is read as a whole, at an offset
abbrev pub finds_dates : Mode → Bool
finds_dates Explain = false
finds_dates _ = true

-- the name of a zone, in a mode that finds dates
abbrev pub zone_said : Mode → List ℕ → Option (List ℕ)
zone_said mode word = if finds_dates mode && is_zone_name word then Some word else None

-- the hours and minutes of a clock, in minutes
abbrev pub clock_minutes : Option ℕ → Option ℕ → Option ℕ
clock_minutes (Some hour) (Some minute) = Some (hour * 60 + minute)
clock_minutes _ _ = None

-- a year is four digits
unfoldable pub year_said : List ℕ → Option ℤ
year_said word = if length word == 4 then option_map pos (number_said 0 9999 4 word) else None

-- a time of day as `HH:MM`, in minutes
unfoldable pub time_said : List ℕ → Option ℕ
time_said (h ∷ i ∷ mark ∷ m ∷ n ∷ []) = if mark == colon then clock_minutes (number_said 0 23 2 (h ∷ i ∷ [])) (number_said 0 59 2 (m ∷ n ∷ [])) else None
time_said _ = None

-- no byte is a tab or a line feed
abbrev pub is_field : List ℕ → Bool
is_field bytes = list_all (λ byte. not (byte == tab || byte == line_feed)) bytes

-- in these modes a label stands after the key
abbrev pub has_label : Mode → Bool
has_label Key = true
has_label Carry = true
has_label _ = false

-- a label is a field, in a mode that writes one
abbrev pub label_said : Mode → List ℕ → Option (List ℕ)
label_said mode word = if has_label mode && is_field word then Some word else None

-- one byte that may stand between columns: no quotation mark, and no end of a line
abbrev pub is_separator : ℕ → Bool
is_separator byte = not (byte == 34 || byte == line_feed || byte == 13)

-- what stands between columns: such a byte, or a tab by its name
unfoldable pub separator_said : List ℕ → Option ℕ
separator_said (byte ∷ []) = if is_separator byte then Some byte else None
separator_said word = if bytes_eq word (codes "tab") then Some tab else None

-- the number of a column, in a mode that finds dates
abbrev pub number_of_column : Mode → List ℕ → Option ℕ
number_of_column mode word = if finds_dates mode then limit_said word else None

abbrev pub column_said : Mode → List ℕ → List ℕ → Result (Option PartSaid) Wrong
column_said mode number_word separator_word = do
  number ← number_of_column mode number_word or Column number_word
  separator ← separator_said separator_word or Separator separator_word
  Ok (Some (InColumn number separator))

-- the part that the words for a field, a column and a separator say: a field or a column, and a separator for a column alone, which is a comma where it is left out
abbrev pub part_said : Mode → Option (List ℕ) → Option (List ℕ) → Option (List ℕ) → Result (Option PartSaid) Wrong
part_said mode None None None = Ok None
part_said mode (Some name) None None = if finds_dates mode then Ok (Some (InField name)) else Err (Field name)
part_said mode (Some name) (Some word) separator = Err (Column word)
part_said mode None (Some word) separator = column_said mode word (unwrap_or separator (codes ","))
part_said mode field None (Some word) = Err (Separator word)

-- what a word says where there is one, or else that it is wrong
abbrev pub read_by : {A : Type 0} → (List ℕ → Option A) → (List ℕ → Wrong) → Option (List ℕ) → Result (Option A) Wrong
read_by said wrong None = Ok None
read_by said wrong (Some word) = option_map Some (said word) or wrong word

-- what is asked by the words for a zone, a year and a time, by the part and by the word for a label, or the first of these that is wrong
abbrev pub asked_by : Mode → Option (List ℕ) → Option (List ℕ) → Option (List ℕ) → Result (Option PartSaid) Wrong → Option (List ℕ) → Result Asking Wrong
asked_by mode zone_word year_word time_word said label_word = do
  zone ← read_by (zone_said mode) Zone zone_word
  year ← read_by year_said Year year_word
  time ← read_by time_said Time time_word
  part ← said
  label ← read_by (label_said mode) Label label_word
  Ok (record { mode = mode; zone = zone; year = year; time = time; part = part; label = label })

-- ---- all words

-- some word is there
abbrev pub some_of : List (List ℕ) → Result (Unit {0}) Wrong
some_of [] = Err NoSource
some_of (word ∷ words) = Ok tt

-- all parts in the order in which they are looked at, or the first that is wrong
abbrev pub joined : Result (Unit {0}) Wrong → Result (ℤ × Option ℤ × ℕ) Wrong → Result Asking Wrong → Result (List SourceSaid) Wrong → Result (Asking × Words) Wrong
joined some settings asked sources = do
  there ← some
  setting ← settings
  asking ← asked
  all ← sources
  Ok (asking, record { target = setting.0; assumed = setting.1; limit = setting.2; sources = all })

-- what the words after a mode ask
unfoldable pub others_said : Mode → List (List ℕ) → Result (Asking × Words) Wrong
others_said mode words =
    joined (some_of (label_first words).1) (settings_said (target_in words) (assumed_in words) (limit_in words))
    (asked_by mode (zone_in words) (year_first words).0 (time_first words).0 (part_said mode (field_first words).0 (column_first words).0 (separator_first words).0) (label_first words).0) (result_map_both (λ all. all) (first_wrong (is_whole words)) (sources_read None 1 (label_first words).1))

-- the mode and the words after it, or the first thing wrong with them
unfoldable pub mode_words_said : List (List ℕ) → Result (Asking × Words) Wrong
mode_words_said [] = Err NoMode
mode_words_said (word ∷ words) = mode_said word or UnknownMode word >>= (λ mode. others_said mode words)
