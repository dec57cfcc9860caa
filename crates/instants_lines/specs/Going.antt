-- What is written for lines one after another.
use Rattle.std.specs.Prelude.{◌≡◌, ◌⊎◌, ℕ, ◌+◌, ◌*◌, ◌/◌, ◌==◌, ◌&&◌, ◌||◌, not, nat_lt, Bool, true, false, List, [], ◌∷◌, ◌++◌, length, take, position, count_by, Option, None, Some, option_map, codes, if◌then◌else◌, pos}
use Rattle.std.specs.Borrow.{Bor}
use Rattle.zones_clock.specs.declared.zone.Zone.{Zone}
use Rattle.std.specs.Option.{option_map_or, option_or}
use Rattle.base.specs.Bytes.{space, tab, line_feed}
use Rattle.datetime_wall.specs.Wall.{Shown}
use Rattle.instants_prefixes.specs.Reading.{window}
use Rattle.instants_prefixes.specs.declared.given.Given.{Given}
use Rattle.instants_prefixes.specs.declared.given.Years.{Years}
use Rattle.instants_prefixes.specs.declared.given.Years.TheVariants.{Unknown, In, Near}
use Rattle.instants_found.specs.declared.found.Finding.{Finding}
use Rattle.instants_found.specs.declared.found.Finding.TheVariants.{Doubtful, There}
use Rattle.instants_stream.specs.Steps.{Steps}
use Rattle.instants_fields.specs.Members.{longest}
use Rattle.instants_lines_words.specs.Part.{PartSaid}
use Rattle.instants_lines.specs.Dates.{Search, date_in, key_or, replaced}
use Rattle.instants_lines.specs.Explained.{explained}
use Rattle.instants_lines.specs.Located.{located}
use Rattle.instants_lines_words.specs.declared.mode.Mode.{Mode}
use Rattle.instants_lines_words.specs.declared.mode.Mode.TheVariants.{Key, Carry, Replace, Explain, Locate}

-- the mode, what dates are looked for by, the label of the lines, the key that a line without a date takes, and how deep the last line with a date begins
pub record Going : Type 0 where
  pub mode : Mode
  pub search : Search
  pub label : Option (List ℕ)
  pub key : List ℕ
  pub indent : Option ℕ

-- the keys and the dates of lines are carried to the lines below
abbrev pub is_carry : Mode → Bool
is_carry Carry = true
is_carry _ = false

-- lines are explained, as a whole or not at all
abbrev pub is_explain : Mode → Bool
is_explain Explain = true
is_explain _ = false

-- lines are written after their keys
abbrev pub has_keys : Mode → Bool
has_keys Key = true
has_keys Carry = true
has_keys _ = false

abbrev pub IsKeyed : Mode → Type 0
IsKeyed mode = (mode ≡ Key) ⊎ (mode ≡ Carry)

-- the spaces and tabs before the first other byte
abbrev pub margin : List ℕ → List ℕ
margin bytes = option_map_or (λ len. take len bytes) (position (λ byte. not (byte == space || byte == tab)) bytes) bytes

-- how deep a line begins, by its first bytes, in steps of two columns, since a day or an hour may be one digit after a space; a tab is eight columns
unfoldable pub depth : List ℕ → ℕ
depth line = let white = margin (take window line) in (length white + 7 * count_by (λ byte. byte == tab) white) / 2

-- in mode `carry` a line that begins deeper than the last one with a date goes on with what that one says
abbrev pub goes_on : Mode → Option ℕ → List ℕ → Bool
goes_on mode indent line = is_carry mode && option_map_or (λ above. nat_lt above (depth line)) indent false

-- the date of a line, which is none where the line goes on
abbrev pub finding_in : Going → List ℕ → Option Finding
finding_in going line = if goes_on going.mode going.indent line then None else date_in going.search line

-- the key of a line: that of its date, and where it has none the one that such a line takes
abbrev pub key_of_line : Going → List ℕ → List ℕ
key_of_line going line = key_or going.search.setting going.key (finding_in going line)

-- what stands before a line for its label: the label and a tab, or nothing
abbrev pub label_prefix : Option (List ℕ) → List ℕ
label_prefix None = []
label_prefix (Some label) = label ++ tab ∷ []

-- a line after its key and a tab, and after its label
abbrev pub keyed : Going → List ℕ → List ℕ
keyed going line = key_of_line going line ++ tab ∷ (label_prefix going.label ++ line)

-- the text for a line: it stands after its key and its label, or has the date-time in place of its date, or is explained, or its date is located
abbrev pub text_in : Mode → Going → List ℕ → List ℕ
text_in Replace going line = replaced going.search line
text_in Explain going line = explained going.search.setting line
text_in Locate going line = located going.search line
text_in _ going line = keyed going line

-- a line's text ends in a line feed; where dates are replaced a last line without one stays so
abbrev pub last_end : Mode → List ℕ
last_end Replace = []
last_end _ = line_feed ∷ []

-- ---- the line below

-- where a year is given, that of a line below a date is the one that brings it nearest to the date
abbrev pub years_below : Years → Shown → Years
years_below Unknown above = Unknown
years_below (In year) above = Near above
years_below (Near other) above = Near above

-- a date's own clock, where dates are on that of a zone
abbrev pub on_clock : Option (Bor Zone) → Shown → Shown
on_clock None date = date
on_clock (Some zone) date = record date { offset = pos 0 }

abbrev pub given_below : Given → Option Finding → Given
given_below given None = given
given_below given (Some (Doubtful place)) = given
given_below given (Some (There date)) = record given { years = years_below given.years (on_clock given.zone date.moment) }

-- below a line that begins so deep, by its date: in mode `carry` its key is taken, and how deep the last line with a date begins
abbrev pub below_by : Going → ℕ → Option Finding → Going
below_by going deep finding =
    record going {
      search = record going.search { given = given_below going.search.given finding };
      key = if is_carry going.mode then key_or going.search.setting going.key finding else going.key;
      indent = if is_carry going.mode then option_or (option_map (λ one. deep) finding) going.indent else going.indent;
    }

abbrev pub below : Going → List ℕ → Going
below going line = below_by going (depth line) (finding_in going line)

-- a line that is explained changes nothing
abbrev pub next_in : Mode → Going → List ℕ → Going
next_in mode going line = if is_explain mode then going else below going line

-- ---- long lines

-- the greatest length of lines for which there is room, beside what stands after a date: the limit, or that of lines which have a part
abbrev pub room : Option PartSaid → ℕ → ℕ
room None limit = limit
room (Some part) limit = longest

-- how many bytes of a line are looked at, beside one more: where there is room for so many, a date that begins at one of them, and what stands after it; a line is explained whole or not at all, and the part of one is too
abbrev pub reach : Mode → Option PartSaid → ℕ → ℕ
reach mode None most = if is_explain mode then most else most + window + 64
reach mode (Some part) most = most

abbrev pub near : Mode → Search → ℕ
near mode search = reach mode search.part (room search.part search.limit)

-- the text for the first bytes of a longer line
abbrev pub begun_in : Mode → Going → List ℕ → List ℕ
begun_in mode going prefix = if is_explain mode then [] else text_in mode going prefix

abbrev pub hands_on : Mode → Bool
hands_on Explain = false
hands_on Locate = false
hands_on _ = true

-- what stands at its end
abbrev pub end_in : Mode → List ℕ → List ℕ
end_in mode end = if is_explain mode then codes "! long" ++ end else end

abbrev pub lines_steps : Steps Going
lines_steps =
    record {
      said = λ going line. text_in going.mode going line ++ line_feed ∷ [];
      next = λ going line. next_in going.mode going line;
      last_said = λ going line. text_in going.mode going line ++ last_end going.mode;
      begun = λ going prefix. begun_in going.mode going prefix;
      within = λ going prefix. next_in going.mode going prefix;
      hands_on = λ going. hands_on going.mode;
      ended = λ going. end_in going.mode (line_feed ∷ []);
      last_ended = λ going. end_in going.mode (last_end going.mode);
    }

-- at the beginning a line without a date takes `! none`
abbrev pub beginning : Mode → Option (List ℕ) → Search → Going
beginning mode label search = record { mode = mode; search = search; label = label; key = codes "! none"; indent = None }
