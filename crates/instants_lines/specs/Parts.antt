-- The part of a line in which its date is looked for, and what is found there.
use Rattle.std.specs.Prelude.{ℕ, ◌+◌, ◌==◌, Bool, false, nat_le, nat_lt, List, length, drop, position, Option, None, Some, option_map, if◌then◌else◌}
use Rattle.std.specs.List.{slice_range}
use Rattle.std.specs.Option.{option_map_or}
use Rattle.instants_fields.specs.Members.{member_of, longest}
use Rattle.instants_fields.specs.Columns.{column_of}
use Rattle.instants_fields.specs.declared.columns.Part.{Part}
use Rattle.instants_fields.specs.declared.json.Member.{Member}
use Rattle.instants_found.specs.Within.{LiesWithin}
use Rattle.instants_found.specs.declared.found.Found.{Found}
use Rattle.instants_found.specs.declared.found.Finding.{Finding}
use Rattle.instants_found.specs.declared.found.Finding.TheVariants.{Doubtful, There}
pub use Rattle.instants_lines_words.specs.Part.{PartSaid, InField, InColumn}

-- there is one column of a number
abbrev pub only : Part → Member
only part = record { start = part.start; end = part.end; repeats = false }

-- where a part lies in a line
abbrev pub lies_at : PartSaid → List ℕ → Option Member
lies_at (InField name) line = member_of line name
lies_at (InColumn number separator) line = option_map only (column_of line number separator)

-- the same, of lines that are not too long
unfoldable pub place_of_part : PartSaid → List ℕ → Option Member
place_of_part part line = if nat_le (length line) longest then lies_at part line else None

-- the bytes of a part
abbrev pub text_at : Member → List ℕ → List ℕ
text_at place line = slice_range line place.start place.end

abbrev pub text_of_part : PartSaid → List ℕ → Option (List ℕ)
text_of_part part line = option_map (λ place. text_at place line) (place_of_part part line)

-- in a string of JSON an escape begins in a date, or among the 16 bytes after it
abbrev pub has_escape : PartSaid → List ℕ → Found → Bool
has_escape (InField name) text date = option_map_or (λ place. nat_lt (date.start + place) (date.end + 16)) (position (λ byte. byte == 92) (drop date.start text)) false
has_escape (InColumn number separator) text date = false

-- a date by the places of a line in which its part begins at this one
abbrev pub moved : ℕ → Found → Found
moved at date = record date { start = at + date.start; end = at + date.end }

-- what is found in the text of a part, by the places of the line: a date with an escape in it or near behind it is in doubt
abbrev pub found_at : ℕ → PartSaid → List ℕ → Option Finding → Option Finding
found_at at part text None = None
found_at at part text (Some (Doubtful place)) = Some (Doubtful (at + place))
found_at at part text (Some (There date)) = Some (if has_escape part text date then Doubtful (at + date.start) else There (moved at date))

-- a date that is found lies within so many bytes, and is read by one of so many sources
abbrev pub LiesIn : ℕ → ℕ → Finding → Type 0
LiesIn bytes sources (Doubtful place) = Unit {0}
LiesIn bytes sources (There date) = LiesWithin bytes sources date
