-- RFC 2822, section 3.3, with the obsolete years and zones of its section 4.3: weekday, date, time of day and zone, with comments and folding white space between them.
--
-- A strict reading refuses each number out of range where it stands; one that is not strict leaves them to what resolves the numbers.
use Rattle.std.specs.Prelude.{ℕ, ◌+◌, Bool, true, false, List, Option, Some, None, codes, nat_le, nat_lt, ◌==◌, if◌then◌else◌, option_map}
use Rattle.base.specs.Bytes.{colon, hyphen}
use Rattle.calendar_count.specs.declared.month.Month.{Month}
use Rattle.calendar_count.specs.declared.weekday.Weekday.{Weekday}
use Rattle.parsing_combinator.specs.Fault.{literal, component}
use Rattle.parsing_combinator.specs.Pieces.{Piece, digits, byte, sign}
use Rattle.parsing_combinator.specs.Readings.{Reading, ◌or◌, ◌>>=◌, ◌>>◌, give, if_there, require, within}
use Rattle.parsing_rfc2822.specs.Skips.{Skip, optional, byte_where, past}
use Rattle.parsing_rfc2822.specs.WhiteSpace.{folding_white_space, comments_and_white_space}
use Rattle.parsing_rfc2822.specs.Names.{weekday, month, zone_name}
use Rattle.parsing_rfc2822.specs.declared.parts.Rfc2822Parts.{Rfc2822Parts}
use Rattle.parsing_combinator.specs.declared.zone.Zone.{Zone}

-- `,`
abbrev pub comma : ℕ
comma = 44

-- what is passed where it is there
abbrev pub optionally : Skip → Reading (Unit {0})
optionally skip = λ bytes. give tt (optional skip bytes)

-- a colon, with comments and white space on both sides
unfoldable pub spaced_colon : Skip
spaced_colon bytes = option_map (optional comments_and_white_space) (byte_where (λ c. c == colon) (optional comments_and_white_space bytes))

abbrev pub first_or : {A : Type 0} → Option (A × List ℕ) → Option (A × List ℕ) → Option (A × List ℕ)
first_or (Some x) other = Some x
first_or None other = other

unfoldable pub one_or_two_digits : Piece ℕ
one_or_two_digits bytes = first_or (digits 2 bytes) (digits 1 bytes)

-- the comma after a weekday
unfoldable pub named_day : Weekday → Reading (Option Weekday)
named_day w = do
  byte comma or literal
  optionally comments_and_white_space
  give (Some w)

-- `Tue,`, or nothing
unfoldable pub optional_weekday : Reading (Option Weekday)
optional_weekday = if_there weekday named_day (give None)

-- `Tue, 1`
unfoldable pub day : Bool → Reading (Option Weekday × ℕ)
day is_strict = do
  optionally comments_and_white_space
  w ← optional_weekday
  day ← one_or_two_digits or component (codes "day")
  require (within is_strict 1 31 day) (component (codes "day"))
  give (w, day)

unfoldable pub full_year : ℕ → Reading ℕ
full_year year = do
  require (nat_le 1900 year) (component (codes "year"))
  past folding_white_space or literal
  give year

-- two digits, which name a year from 1950 to 2049
unfoldable pub short_year : Reading ℕ
short_year = do
  year ← digits 2 or component (codes "year")
  past comments_and_white_space or literal
  give (if nat_lt year 50 then year + 2000 else year + 1900)

-- a year with what has to stand after it
unfoldable pub year : Reading ℕ
year = if_there (digits 4) full_year short_year

-- ` Jul 2003 `
unfoldable pub month_and_year : Reading (Month × ℕ)
month_and_year = do
  past comments_and_white_space or literal
  month ← month or component (codes "month")
  past comments_and_white_space or literal
  year ← year
  give (month, year)

-- `10:52`
unfoldable pub hour_and_minute : Bool → Reading (ℕ × ℕ)
hour_and_minute is_strict = do
  hour ← digits 2 or component (codes "hour")
  require (within is_strict 0 23 hour) (component (codes "hour"))
  past spaced_colon or literal
  minute ← digits 2 or component (codes "minute")
  require (within is_strict 0 59 minute) (component (codes "minute"))
  give (hour, minute)

unfoldable pub due_second : Bool → Reading (Option ℕ)
due_second is_strict = do
  second ← digits 2 or component (codes "second")
  require (within is_strict 0 60 second) (component (codes "second"))
  give (Some second)

-- `:37`, or nothing
unfoldable pub second : Bool → Reading (Option ℕ)
second is_strict = if_there (past spaced_colon) (λ _. due_second is_strict) (give None)

-- `10:52:37`, or `10:52`
unfoldable pub clock : Bool → Reading (ℕ × ℕ × Option ℕ)
clock is_strict = do
  t ← hour_and_minute is_strict
  second ← second is_strict
  give (t.0, t.1, second)

-- hours and minutes after a sign, both under it
unfoldable pub signed_zone : Bool → ℕ → Reading Zone
signed_zone is_strict s = do
  hours ← digits 2 or component (codes "offset hour")
  require (within is_strict 0 25 hours) (component (codes "offset hour"))
  minutes ← digits 2 or component (codes "offset minute")
  require (within is_strict 0 59 minutes) (component (codes "offset minute"))
  give (record { is_named = false; is_negative = s == hyphen; hours = hours; minutes = minutes })

unfoldable pub named_zone : Reading Zone
named_zone = do
  hours ← zone_name or component (codes "offset hour")
  give (record { is_named = true; is_negative = true; hours = hours; minutes = 0 })

-- `+0200`, or a name
unfoldable pub zone : Bool → Reading Zone
zone is_strict = if_there sign (signed_zone is_strict) named_zone

-- ` +0200 `
unfoldable pub spaced_zone : Bool → Reading Zone
spaced_zone is_strict = do
  past comments_and_white_space or literal
  z ← zone is_strict
  optionally comments_and_white_space
  give z

-- `Tue, 1 Jul 2003 10:52:37 +0200`
unfoldable pub rfc2822 : Bool → Reading Rfc2822Parts
rfc2822 is_strict = do
  d ← day is_strict
  m ← month_and_year
  t ← clock is_strict
  z ← spaced_zone is_strict
  give (record { weekday = d.0; day = d.1; month = m.0; year = m.1; hour = t.0; minute = t.1; second = t.2; zone = z })
