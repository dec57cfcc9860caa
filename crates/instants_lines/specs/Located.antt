-- Where the date of a line is, and by which source, or why it is in doubt.
use Rattle.std.specs.Prelude.{ℕ, ◌+◌, Bool, if◌then◌else◌, List, [], ◌∷◌, ◌++◌, codes, Option, None, Some}
use Rattle.std.specs.Fmt.{decimal}
use Rattle.base.specs.Bytes.{tab, hyphen}
use Rattle.instants_sources.specs.Grammar.{Grammar}
use Rattle.instants_found.specs.Doubts.{doubt_of}
use Rattle.instants_found.specs.declared.doubt.Doubt.{Doubt}
use Rattle.instants_found.specs.declared.doubt.Doubt.TheVariants.{After, ClockBefore, Skipped, Repeated, AnotherOffset, AnotherTime, AnotherYear}
use Rattle.instants_found.specs.declared.doubt.Doubted.{Doubted}
use Rattle.instants_found.specs.declared.found.Finding.{Finding}
use Rattle.instants_found.specs.declared.found.Finding.TheVariants.{Doubtful, There}
use Rattle.instants_fields.specs.declared.json.Member.{Member}
use Rattle.instants_found.specs.declared.found.Found.{Found}
use Rattle.instants_lines.specs.Parts.{PartSaid, has_escape, place_of_part, text_at}
use Rattle.instants_lines.specs.Dates.{Search, found_by, doubt, key_of_date}

-- the bytes from one place up to another: the first and the last, counted from 1, as `cut -b` takes them
abbrev pub range_text : ℕ → ℕ → List ℕ
range_text start end = decimal (start + 1) ++ hyphen ∷ decimal end

-- what a source has read: its number, counted from 1, and where, each after a tab
abbrev pub read_text : ℕ → ℕ → ℕ → List ℕ
read_text number start end = tab ∷ ((decimal (number + 1) ++ tab ∷ []) ++ range_text start end)

-- why a date does not stand whole
abbrev pub reason : Doubt → List ℕ
reason After = codes "goes on"
reason ClockBefore = codes "clock in front"
reason Skipped = codes "skipped by the clock"
reason Repeated = codes "twice by the clock"
reason AnotherOffset = codes "another offset"
reason AnotherTime = codes "another time"
reason AnotherYear = codes "another year"

-- what a source has read that is in doubt, and why, in a text that begins at this place of the line
abbrev pub doubt_text : ℕ → ℕ → Option Doubted → List ℕ
doubt_text at number None = []
doubt_text at number (Some one) = read_text number (at + one.start) (at + one.end) ++ tab ∷ reason one.doubt

-- the same of each of these sources, the first of which has this number, at a place of the text
unfoldable pub doubts_from : Search → ℕ → List ℕ → ℕ → ℕ → List Grammar → List ℕ
doubts_from search at text place number [] = []
doubts_from search at text place number (grammar ∷ others) =
    doubt_text at number (doubt_of search.limit search.given search.setting.sources text place number) ++ doubts_from search at text place (number + 1) others

-- the key of a line by what is found in a text, with what has read it
abbrev pub finding_text : Search → ℕ → List ℕ → Option Finding → List ℕ
finding_text search at text None = codes "! none"
finding_text search at text (Some (Doubtful place)) = doubt ++ doubts_from search at text place 0 search.setting.sources
finding_text search at text (Some (There date)) = key_of_date search.setting date ++ read_text date.source (at + date.start) (at + date.end)

-- a date with an escape in it or near behind it
abbrev pub escaped_text : ℕ → Found → List ℕ
escaped_text at date = doubt ++ (read_text date.source (at + date.start) (at + date.end) ++ tab ∷ codes "escape")

-- the same by what is found in the text of a part
abbrev pub part_text : Search → PartSaid → ℕ → List ℕ → Option Finding → List ℕ
part_text search part at text (Some (There date)) = if has_escape part text date then escaped_text at date else finding_text search at text (Some (There date))
part_text search part at text found = finding_text search at text found

-- that another member of the name follows
abbrev pub again : Bool → List ℕ
again repeats = if repeats then codes "\tfirst of several" else []

abbrev pub located_at : Search → PartSaid → List ℕ → Option Member → List ℕ
located_at search part line None = codes "! none"
located_at search part line (Some place) = part_text search part place.start (text_at place line) (found_by search (text_at place line)) ++ again place.repeats

abbrev pub located_by : Search → List ℕ → Option PartSaid → List ℕ
located_by search line None = finding_text search 0 line (found_by search line)
located_by search line (Some part) = located_at search part line (place_of_part part line)

-- the key of a line, with what has read its date and where, or why it is in doubt
unfoldable pub located : Search → List ℕ → List ℕ
located search line = located_by search line search.part
