-- What each component reads.
use Rattle.std.specs.Prelude.{◌≡◌, ◌≤◌, ◌||◌, ℕ, Bool, true, false, List, [], ◌∷◌, length, drop, Option, Some, None, Ok, Err, option_map, nat_le, not, codes, if◌then◌else◌}
use Rattle.std.specs.Int.{is_in_range}
use Rattle.description_modifiers.specs.declared.choices.Padding.{Padding}
use Rattle.description_modifiers.specs.declared.choices.SubsecondDigits.{SubsecondDigits}
use Rattle.description_modifiers.specs.declared.choices.SubsecondDigits.TheVariants as digits
use Rattle.description_modifiers.specs.declared.choices.TrailingInput.{TrailingInput}
use Rattle.description_modifiers.specs.declared.choices.TrailingInput.TheVariants as trailing_input
use Rattle.description_items.specs.declared.component.Component.{Component}
use Rattle.description_items.specs.declared.component.Component.TheVariants as component
use Rattle.description_items.specs.Modern.{modern}
use Rattle.parsing_combinator.specs.Fault.{Fault, trailing}
use Rattle.parsing_combinator.specs.Fault as fault
use Rattle.parsing_combinator.specs.Pieces.{Piece}
use Rattle.parsing_combinator.specs.Readings.{Reading, piece_or}
use Rattle.parsing_combinator.specs.Shape.{Shape, taken, digits_between, fraction_between}
use Rattle.parsing_combinator.specs.Numbers.{padded, year, century, offset_hour, timestamp}
use Rattle.parsing_combinator.specs.Names.{named, period, short_months, long_months, short_weekdays, long_weekdays}
use Rattle.calendar_count.specs.Range.{greatest_year}
use Rattle.parsing_components.specs.Ranged.{greatest_century, says, between, up_to, since_epoch, counted, months, from_sunday, from_monday}
use Rattle.parsing_components.specs.Record.{IsInRange}
use Rattle.parsing_components.specs.declared.said.Read.{Read}
use Rattle.parsing_components.specs.declared.said.Read.TheVariants as read

-- one to 32 digits, or exactly so many
abbrev pub fraction_of : SubsecondDigits → Shape ℕ
fraction_of digits.One = fraction_between 1 1
fraction_of digits.Two = fraction_between 2 2
fraction_of digits.Three = fraction_between 3 3
fraction_of digits.Four = fraction_between 4 4
fraction_of digits.Five = fraction_between 5 5
fraction_of digits.Six = fraction_between 6 6
fraction_of digits.Seven = fraction_between 7 7
fraction_of digits.Eight = fraction_between 8 8
fraction_of digits.Nine = fraction_between 9 9
fraction_of digits.OneOrMore = fraction_between 1 32

-- so many bytes, whatever they are
unfoldable pub ignored : ℕ → Piece Read
ignored count bytes = if nat_le count (length bytes) then Some (read.Nothing, drop count bytes) else None

-- the parts of an offset, timestamps, and what is passed over
unfoldable pub offset_piece : Component → Piece Read
offset_piece (component.OffsetHour m) = says (up_to 25 (λ negative hour. read.OffsetHour hour negative)) (taken (offset_hour m.padding m.sign_is_mandatory))
offset_piece (component.OffsetMinute m) = says (between 0 59 read.OffsetMinute) (taken (padded m.padding 2 2))
offset_piece (component.OffsetSecond m) = says (between 0 59 read.OffsetSecond) (taken (padded m.padding 2 2))
offset_piece (component.UnixTimestampSecond m) = says (since_epoch read.Unix 1_000_000_000) (taken (timestamp m.sign_is_mandatory 14))
offset_piece (component.UnixTimestampMillisecond m) = says (since_epoch read.Unix 1_000_000) (taken (timestamp m.sign_is_mandatory 17))
offset_piece (component.UnixTimestampMicrosecond m) = says (since_epoch read.Unix 1_000) (taken (timestamp m.sign_is_mandatory 20))
offset_piece (component.UnixTimestampNanosecond m) = says (since_epoch read.Unix 1) (taken (timestamp m.sign_is_mandatory 23))
offset_piece (component.Ignore m) = ignored m.count
offset_piece other = λ bytes. None

-- the digits below a second of a timestamp that needs no sign
abbrev pub unix_digits : Component → Option ℕ
unix_digits (component.UnixTimestampSecond m) = if m.sign_is_mandatory then None else Some 0
unix_digits (component.UnixTimestampMillisecond m) = if m.sign_is_mandatory then None else Some 3
unix_digits (component.UnixTimestampMicrosecond m) = if m.sign_is_mandatory then None else Some 6
unix_digits (component.UnixTimestampNanosecond m) = if m.sign_is_mandatory then None else Some 9
unix_digits other = None

-- the parts of a time
unfoldable pub time_piece : Component → Piece Read
time_piece (component.Hour12 m) = says (between 1 12 read.Hour12) (taken (padded m.padding 2 2))
time_piece (component.Hour24 m) = says (between 0 23 read.Hour24) (taken (padded m.padding 2 2))
time_piece (component.Minute m) = says (between 0 59 read.Minute) (taken (padded m.padding 2 2))
time_piece (component.Period m) = says (λ x. Some (read.Afternoon x)) (taken (period m.is_uppercase m.case_sensitive))
time_piece (component.Second m) = says (between 0 60 read.Second) (taken (padded m.padding 2 2))
time_piece (component.Subsecond m) = says (λ n. Some (read.Subsecond n)) (taken (fraction_of m.digits))
time_piece other = offset_piece other

-- years
unfoldable pub year_piece : Component → Piece Read
year_piece (component.CalendarYearFullExtendedRange m) = says (up_to greatest_year (λ negative y. read.Year y)) (taken (year m.padding m.sign_is_mandatory true))
year_piece (component.CalendarYearFullStandardRange m) = says (up_to greatest_year (λ negative y. read.Year y)) (taken (year m.padding m.sign_is_mandatory false))
year_piece (component.CalendarYearCenturyExtendedRange m) = says (up_to greatest_century (λ negative c. read.YearCentury c negative)) (taken (century m.padding m.sign_is_mandatory true))
year_piece (component.CalendarYearCenturyStandardRange m) = says (up_to greatest_century (λ negative c. read.YearCentury c negative)) (taken (century m.padding m.sign_is_mandatory false))
year_piece (component.CalendarYearLastTwo m) = says (between 0 99 read.YearLastTwo) (taken (padded m.padding 2 2))
year_piece (component.IsoYearFullExtendedRange m) = says (up_to greatest_year (λ negative y. read.IsoYear y)) (taken (year m.padding m.sign_is_mandatory true))
year_piece (component.IsoYearFullStandardRange m) = says (up_to greatest_year (λ negative y. read.IsoYear y)) (taken (year m.padding m.sign_is_mandatory false))
year_piece (component.IsoYearCenturyExtendedRange m) = says (up_to greatest_century (λ negative c. read.IsoYearCentury c negative)) (taken (century m.padding m.sign_is_mandatory true))
year_piece (component.IsoYearCenturyStandardRange m) = says (up_to greatest_century (λ negative c. read.IsoYearCentury c negative)) (taken (century m.padding m.sign_is_mandatory false))
year_piece (component.IsoYearLastTwo m) = says (between 0 99 read.IsoYearLastTwo) (taken (padded m.padding 2 2))
year_piece other = time_piece other

-- the parts of a date but the year
unfoldable pub date_piece : Component → Piece Read
date_piece (component.Day m) = says (between 1 31 read.Day) (taken (padded m.padding 2 2))
date_piece (component.MonthShort m) = says (λ x. Some (read.Month x)) (taken (named m.case_sensitive short_months))
date_piece (component.MonthLong m) = says (λ x. Some (read.Month x)) (taken (named m.case_sensitive long_months))
date_piece (component.MonthNumerical m) = says (λ n. option_map read.Month (counted true months n)) (taken (padded m.padding 2 2))
date_piece (component.Ordinal m) = says (between 1 366 read.Ordinal) (taken (padded m.padding 3 3))
date_piece (component.WeekdayShort m) = says (λ x. Some (read.Weekday x)) (taken (named m.case_sensitive short_weekdays))
date_piece (component.WeekdayLong m) = says (λ x. Some (read.Weekday x)) (taken (named m.case_sensitive long_weekdays))
date_piece (component.WeekdaySunday m) = says (λ n. option_map read.Weekday (counted m.one_indexed from_sunday n)) (taken (digits_between 1 1))
date_piece (component.WeekdayMonday m) = says (λ n. option_map read.Weekday (counted m.one_indexed from_monday n)) (taken (digits_between 1 1))
date_piece (component.WeekNumberIso m) = says (between 1 53 read.IsoWeek) (taken (padded m.padding 2 2))
date_piece (component.WeekNumberSunday m) = says (between 0 53 read.SundayWeek) (taken (padded m.padding 2 2))
date_piece (component.WeekNumberMonday m) = says (between 0 53 read.MondayWeek) (taken (padded m.padding 2 2))
date_piece other = year_piece other

-- ---- numbers of two digits, which the crate's private clauses name alone

-- what such a number says
abbrev pub said_by : Component → ℕ → Read
said_by (component.Day m) = read.Day
said_by (component.WeekNumberIso m) = read.IsoWeek
said_by (component.WeekNumberSunday m) = read.SundayWeek
said_by (component.WeekNumberMonday m) = read.MondayWeek
said_by (component.CalendarYearLastTwo m) = read.YearLastTwo
said_by (component.IsoYearLastTwo m) = read.IsoYearLastTwo
said_by (component.Hour12 m) = read.Hour12
said_by (component.Hour24 m) = read.Hour24
said_by (component.Minute m) = read.Minute
said_by (component.Second m) = read.Second
said_by (component.OffsetMinute m) = read.OffsetMinute
said_by other = read.OffsetSecond

-- whether a component is such a number
abbrev pub is_two_digits : Component → Bool
is_two_digits (component.Day m) = true
is_two_digits (component.WeekNumberIso m) = true
is_two_digits (component.WeekNumberSunday m) = true
is_two_digits (component.WeekNumberMonday m) = true
is_two_digits (component.CalendarYearLastTwo m) = true
is_two_digits (component.IsoYearLastTwo m) = true
is_two_digits (component.Hour12 m) = true
is_two_digits (component.Hour24 m) = true
is_two_digits (component.Minute m) = true
is_two_digits (component.Second m) = true
is_two_digits (component.OffsetMinute m) = true
is_two_digits (component.OffsetSecond m) = true
is_two_digits other = false

-- the others that most descriptions have
abbrev pub is_month_or_year : Component → Bool
is_month_or_year (component.MonthNumerical m) = true
is_month_or_year (component.CalendarYearFullStandardRange m) = true
is_month_or_year other = false

abbrev pub is_usual : Component → Bool
is_usual c = is_two_digits c || is_month_or_year c

-- a component is a number of two digits under a padding, in a range
pub record IsTwoDigits (c : Component) (padding : Padding) (low high : ℕ) : Type 0 where
  pub reads : (bytes : List ℕ) → date_piece c bytes ≡ says (between low high (said_by c)) (taken (padded padding 2 2)) bytes
  pub range : (n : ℕ) → low ≤ n → n ≤ high → IsInRange (said_by c n)

-- ---- what is said

-- the name in a fault
unfoldable pub time_name : Component → List ℕ
time_name (component.Hour12 m) = codes "hour"
time_name (component.Hour24 m) = codes "hour"
time_name (component.Minute m) = codes "minute"
time_name (component.Period m) = codes "period"
time_name (component.Second m) = codes "second"
time_name (component.Subsecond m) = codes "subsecond"
time_name (component.OffsetHour m) = codes "offset hour"
time_name (component.OffsetMinute m) = codes "offset minute"
time_name (component.OffsetSecond m) = codes "offset second"
time_name (component.Ignore m) = codes "ignore"
time_name (component.UnixTimestampSecond m) = codes "unix_timestamp"
time_name (component.UnixTimestampMillisecond m) = codes "unix_timestamp"
time_name (component.UnixTimestampMicrosecond m) = codes "unix_timestamp"
time_name (component.UnixTimestampNanosecond m) = codes "unix_timestamp"
time_name other = codes "year"

unfoldable pub component_name : Component → List ℕ
component_name (component.MonthShort m) = codes "month"
component_name (component.MonthLong m) = codes "month"
component_name (component.MonthNumerical m) = codes "month"
component_name (component.Day m) = codes "day"
component_name (component.Ordinal m) = codes "ordinal"
component_name (component.WeekdayShort m) = codes "weekday"
component_name (component.WeekdayLong m) = codes "weekday"
component_name (component.WeekdaySunday m) = codes "weekday"
component_name (component.WeekdayMonday m) = codes "weekday"
component_name (component.WeekNumberIso m) = codes "week number"
component_name (component.WeekNumberSunday m) = codes "week number"
component_name (component.WeekNumberMonday m) = codes "week number"
component_name other = time_name other

-- the end of the bytes, or all that remains
abbrev pub at_end : TrailingInput → Reading Read
at_end trailing_input.Discard bytes = Ok (read.Nothing, [])
at_end trailing_input.Prohibit [] = Ok (read.Nothing, [])
at_end trailing_input.Prohibit (x ∷ rest) = Err trailing

unfoldable pub reads_modern : Component → Reading Read
reads_modern (component.End m) bytes = at_end m.trailing_input bytes
reads_modern c bytes = piece_or (fault.component (component_name c)) (date_piece c bytes)

unfoldable pub reads_component : Component → Reading Read
reads_component c = reads_modern (modern c)

-- ---- where what is passed over must be whole characters

-- the bytes don't begin inside a character
abbrev pub begins_character : List ℕ → Bool
begins_character [] = true
begins_character (c ∷ cs) = not (is_in_range 128 191 c)

abbrev pub if_whole : Option (Read × List ℕ) → Option (Read × List ℕ)
if_whole None = None
if_whole (Some x) = if begins_character x.1 then Some x else None

-- as version 3 reads
unfoldable pub reads_component_v3 : Component → Reading Read
reads_component_v3 (component.Ignore m) bytes = piece_or (fault.component (codes "ignore")) (if_whole (ignored m.count bytes))
reads_component_v3 other bytes = reads_component other bytes
