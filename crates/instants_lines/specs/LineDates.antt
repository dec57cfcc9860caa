-- The date of a line as numbers, or the number of why it has none.
use Rattle.std.specs.Prelude.{ℕ, ◌+◌, List, [], ◌∷◌, Option, None, Some, Result, Ok, Err, pos, unsigned_abs, if◌then◌else◌}
use Rattle.std.specs.Int.{int_div_euclid, int_rem_euclid}
use Rattle.std.specs.Option.{option_or}
use Rattle.datetime_wall.specs.Wall.{Shown, instant, second_nanos}
use Rattle.instants_sources.specs.Grammar.{Grammar}
use Rattle.instants_found.specs.Doubts.{doubt_of}
use Rattle.instants_found.specs.declared.doubt.Doubt.{Doubt}
use Rattle.instants_found.specs.declared.doubt.Doubt.TheVariants.{After, ClockBefore, Skipped, Repeated, AnotherOffset, AnotherTime, AnotherYear}
use Rattle.instants_found.specs.declared.doubt.Doubted.{Doubted}
use Rattle.instants_found.specs.declared.found.Found.{Found}
use Rattle.instants_found.specs.declared.found.Finding.{Finding}
use Rattle.instants_found.specs.declared.found.Finding.TheVariants.{Doubtful, There}
use Rattle.instants_faults.specs.Refusal.{Refusal}
use Rattle.instants_fields.specs.declared.json.Member.{Member}
use Rattle.instants_lines.specs.Dates.{Search, found_by, place_of_date}
use Rattle.instants_lines.specs.Going.{Going, below, goes_on}
use Rattle.instants_lines.specs.Parts.{PartSaid, has_escape, place_of_part, text_at}
use Rattle.instants_lines.specs.declared.line_date.LineDate.{LineDate}

-- the number of a reason
abbrev pub doubt_number : Doubt → ℕ
doubt_number After = 201
doubt_number ClockBefore = 202
doubt_number Skipped = 203
doubt_number Repeated = 204
doubt_number AnotherOffset = 205
doubt_number AnotherTime = 206
doubt_number AnotherYear = 207

-- no moment, for a reason of this number, by bytes from one place up to another
abbrev pub without_moment : ℕ → ℕ → ℕ → LineDate
without_moment reason start end = record { seconds = pos 0; nanoseconds = 0; reason = reason; start = start; end = end }

-- no date
abbrev pub undated : LineDate
undated = without_moment 100 0 0

-- a moment at a target, or that its year there is not written
unfoldable pub placed : ℕ → ℕ → Result Shown Refusal → LineDate
placed start end (Ok moment) = record {
  seconds = int_div_euclid (instant moment) (pos second_nanos);
  nanoseconds = unsigned_abs (int_rem_euclid (instant moment) (pos second_nanos));
  reason = 0;
  start = start;
  end = end;
}
placed start end (Err refusal) = without_moment 600 start end

-- a date in doubt, in a text that begins at this place of the line
abbrev pub in_doubt : ℕ → Option Doubted → LineDate
in_doubt at None = without_moment 200 0 0
in_doubt at (Some one) = without_moment (doubt_number one.doubt) (at + one.start) (at + one.end)

-- the first date in doubt at a place of a text, of these sources, which are numbered from here on
unfoldable pub first_doubt : Search → List ℕ → ℕ → ℕ → List Grammar → Option Doubted
first_doubt search text place number [] = None
first_doubt search text place number (grammar ∷ others) =
    option_or (doubt_of search.limit search.given search.setting.sources text place number) (first_doubt search text place (number + 1) others)

-- the date of a line by what is found in a text
abbrev pub dated_by : Search → ℕ → List ℕ → Option Finding → LineDate
dated_by search at text None = undated
dated_by search at text (Some (Doubtful place)) = in_doubt at (first_doubt search text place 0 search.setting.sources)
dated_by search at text (Some (There date)) = placed (at + date.start) (at + date.end) (place_of_date search.setting date)

-- a date with an escape in it or near behind it
abbrev pub escaped : ℕ → Found → LineDate
escaped at date = without_moment 208 (at + date.start) (at + date.end)

-- the same by what is found in the text of a part
abbrev pub part_dated : Search → PartSaid → ℕ → List ℕ → Option Finding → LineDate
part_dated search part at text (Some (There date)) = if has_escape part text date then escaped at date else dated_by search at text (Some (There date))
part_dated search part at text found = dated_by search at text found

abbrev pub dated_at : Search → PartSaid → List ℕ → Option Member → LineDate
dated_at search part line None = undated
dated_at search part line (Some place) = part_dated search part place.start (text_at place line) (found_by search (text_at place line))

abbrev pub dated_in : Search → List ℕ → Option PartSaid → LineDate
dated_in search line None = dated_by search 0 line (found_by search line)
dated_in search line (Some part) = dated_at search part line (place_of_part part line)

-- the date of a line, which is none where the line goes on
unfoldable pub numbered : Going → List ℕ → LineDate
numbered going line = if goes_on going.mode going.indent line then undated else dated_in going.search line going.search.part

-- the dates of lines, one after another
unfoldable pub dates_from : Going → List (List ℕ) → List LineDate
dates_from going [] = []
dates_from going (line ∷ others) = numbered going line ∷ dates_from (below going line) others
