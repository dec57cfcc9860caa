-- The text of a rule: POSIX.1-2024, section 8.3, `TZ`, `stdoffset[dst[offset],start[/time],end[/time]]`, with the times of RFC 9636, section 3.3.
use Rattle.std.specs.Prelude.{ℕ, ◌+◌, ◌*◌, ◌==◌, ◌||◌, Bool, ℤ, pos, ◌+ℤ◌, ◌-ℤ◌, List, [], Option, Some, None}
use Rattle.std.specs.Char.{is_ascii_alphabetic, is_ascii_alphanumeric}
use Rattle.zones_rule.specs.declared.rule.Day.{Day}
use Rattle.zones_rule.specs.declared.rule.Day.TheVariants.{Julian, Numbered, Weekday}
use Rattle.zones_rule.specs.declared.rule.Change.{Change}
use Rattle.zones_rule.specs.declared.rule.Summer.{Summer}
use Rattle.zones_rule.specs.declared.rule.Rule.{Rule}
use Rattle.zones_rule.specs.declared.footer.Footer.{Footer}
use Rattle.zones_rule.specs.Pieces.{Piece, ◌>>=◌, ◌>>◌, give, at_byte, after_byte, at_end, byte, run, number, whole}

abbrev pub plus : ℕ
plus = 43

abbrev pub comma : ℕ
comma = 44

abbrev pub minus : ℕ
minus = 45

abbrev pub point : ℕ
point = 46

abbrev pub slash : ℕ
slash = 47

abbrev pub colon : ℕ
colon = 58

abbrev pub less : ℕ
less = 60

abbrev pub greater : ℕ
greater = 62

-- a name has three letters or more, or between `<` and `>` three or more letters, digits, `+` and `-`
abbrev pub is_quoted_byte : ℕ → Bool
is_quoted_byte c = is_ascii_alphanumeric c || (c == plus) || (c == minus)

unfoldable pub quoted : Piece (List ℕ)
quoted = do
  name ← run is_quoted_byte 3
  byte greater
  give name

unfoldable pub name : Piece (List ℕ)
name = after_byte less quoted (run is_ascii_alphabetic 3)

-- `hh[:mm[:ss]]`, in seconds
abbrev pub sixty : Piece ℕ
sixty = after_byte colon (number 0 59) (give 0)

unfoldable pub seconds : ℕ → Piece ℤ
seconds most_hours = do
  hour ← number 0 most_hours
  minute ← sixty
  second ← sixty
  give (pos (hour * 3_600 + minute * 60 + second))

abbrev pub negative : Piece ℤ → Piece ℤ
negative piece = do
  value ← piece
  give (pos 0 -ℤ value)

-- the same after a sign, or none
unfoldable pub signed : ℕ → Piece ℤ
signed most_hours = after_byte minus (negative (seconds most_hours)) (after_byte plus (seconds most_hours) (seconds most_hours))

-- an offset says how far the clock is behind UTC
unfoldable pub offset : Piece ℤ
offset = negative (signed 24)

-- `Jn`, `n` or `Mm.w.d`
unfoldable pub julian : Piece Day
julian = do
  n ← number 1 365
  give (Julian n)

unfoldable pub numbered : Piece Day
numbered = do
  n ← number 0 365
  give (Numbered n)

unfoldable pub weekday : Piece Day
weekday = do
  month ← number 1 12
  byte point
  week ← number 1 5
  byte point
  day ← number 0 6
  give (Weekday month week day)

unfoldable pub day : Piece Day
day = after_byte 74 julian (after_byte 77 weekday numbered)

-- `/time`, and two o'clock where none is given
unfoldable pub time : Piece ℤ
time = after_byte slash (signed 167) (give (pos 7_200))

-- `,day[/time]`
unfoldable pub change : Piece Change
change = do
  byte comma
  its_day ← day
  its_time ← time
  give (record { day = its_day; time = its_time })

-- an hour ahead of standard time, where no offset is given
unfoldable pub summer_offset : ℤ → Piece ℤ
summer_offset standard = at_byte comma (give (standard +ℤ pos 3_600)) offset

unfoldable pub summer : ℤ → Piece Summer
summer standard = do
  offset ← summer_offset standard
  start ← change
  end ← change
  give (record { offset = offset; start = start; end = end })

-- the rule of a text, and the names of its standard and its summer time, where a rule without summer time has none
unfoldable pub with_summer : List ℕ → ℤ → Piece (Rule × List ℕ × List ℕ)
with_summer standard_name standard = do
  summer_name ← name
  times ← summer standard
  give (record { standard = standard; summer = Some times }, standard_name, summer_name)

-- `stdoffset`, and after it nothing, or summer time
unfoldable pub rule : Piece (Rule × List ℕ × List ℕ)
rule = do
  standard_name ← name
  standard ← offset
  at_end (give (record { standard = standard; summer = None }, standard_name, [])) (with_summer standard_name standard)

abbrev pub rule_of : List ℕ → Option (Rule × List ℕ × List ℕ)
rule_of text = whole (rule text)

-- what a function read, with the bytes behind the names
abbrev pub footer_view : Footer → Rule × List ℕ × List ℕ
footer_view footer = (footer.rule, footer.standard_name.now, footer.summer_name.now)
