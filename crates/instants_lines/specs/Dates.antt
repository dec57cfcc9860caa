-- The date of a line, its key, and the line with its date-time in its place.
use Rattle.std.specs.Prelude.{ℕ, Bool, ◌&&◌, List, ◌++◌, take, drop, codes, Option, None, Some, Result, Ok, Err}
use Rattle.std.specs.Option.{is_none}
use Rattle.datetime_wall.specs.Wall.{Shown}
use Rattle.parsing_components.specs.declared.fields.Record.{Record}
use Rattle.instants_answers.specs.Text.{moment_text}
use Rattle.instants_prefixes.specs.declared.given.Given.{Given}
use Rattle.instants_found.specs.Found.{found}
use Rattle.instants_found.specs.declared.found.Found.{Found}
use Rattle.instants_found.specs.declared.found.Finding.{Finding}
use Rattle.instants_found.specs.declared.found.Finding.TheVariants.{Doubtful, There}
use Rattle.instants_faults.specs.Refusal.{Refusal}
use Rattle.instants_timeline.specs.Place.{Setting, shown_or_refused, place_text}
use Rattle.instants_fields.specs.declared.json.Member.{Member}
use Rattle.instants_lines.specs.Parts.{PartSaid, found_at, place_of_part, text_at}

-- what a search goes by: the sources and the target, the part of each line in which it looks, if not in the whole line, the number of places of that at which a date may begin, and what is given for dates that lack it
pub record Search : Type 0 where
  pub setting : Setting
  pub part : Option PartSaid
  pub limit : ℕ
  pub given : Given

-- what is found in a text, which is a whole line or a part of one
abbrev pub found_by : Search → List ℕ → Option Finding
found_by search text = found search.limit search.given search.setting.sources text

-- what is found in a part of a line, where the line has such a part
abbrev pub date_at : Search → PartSaid → List ℕ → Option Member → Option Finding
date_at search part line None = None
date_at search part line (Some place) = found_at place.start part (text_at place line) (found_by search (text_at place line))

abbrev pub date_by : Search → List ℕ → Option PartSaid → Option Finding
date_by search line None = found_by search line
date_by search line (Some part) = date_at search part line (place_of_part part line)

-- the date of a line, where a source reads one
abbrev pub date_in : Search → List ℕ → Option Finding
date_in search line = date_by search line search.part

-- no part of an offset was read
abbrev pub says_no_offset : Record → Bool
says_no_offset read = is_none read.offset_hour && (is_none read.offset_minute && is_none read.offset_second)

-- a date's place on the timeline: its moment at the target, or that its year there is not written
unfoldable pub place_of_date : Setting → Found → Result Shown Refusal
place_of_date setting date = shown_or_refused setting.target (Ok date.moment)

-- the key of a date: its date-time at the target, or `! year`
abbrev pub key_of_date : Setting → Found → List ℕ
key_of_date setting date = place_text (place_of_date setting date)

-- the key of a line whose date is in doubt
abbrev pub doubt : List ℕ
doubt = codes "! doubt"

-- the key of a line by its date, and another key where it has none
abbrev pub key_or : Setting → List ℕ → Option Finding → List ℕ
key_or setting other None = other
key_or setting other (Some (Doubtful place)) = doubt
key_or setting other (Some (There date)) = key_of_date setting date

-- the line with a date-time in place of a date; where its year is not written the line stays
abbrev pub with_date_time : List ℕ → Found → Result Shown Refusal → List ℕ
with_date_time line date (Ok moment) = take date.start line ++ (moment_text moment ++ drop date.end line)
with_date_time line date (Err refusal) = line

-- the same by the line's date; a line without one stays, and one whose date is in doubt
abbrev pub with_date : Setting → List ℕ → Option Finding → List ℕ
with_date setting line None = line
with_date setting line (Some (Doubtful place)) = line
with_date setting line (Some (There date)) = with_date_time line date (place_of_date setting date)

-- the line with the date-time in place of its date
unfoldable pub replaced : Search → List ℕ → List ℕ
replaced search line = with_date search.setting line (date_in search line)
