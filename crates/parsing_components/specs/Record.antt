-- What a record holds, by its fields, and the range of each.
use Rattle.std.specs.Prelude.{ℕ, ◌≤◌, ℤ, pos, neg_ℤ, ◌≤ℤ◌, ◌&&◌, Bool, false, Option, Some, None, IfSome, if◌then◌else◌, int_le, int_lt}
use Rattle.std.specs.Ordering.{int_eq}
use Rattle.calendar_count.specs.Range.{greatest_year}
use Rattle.parsing_components.specs.Ranged.{greatest_century, nanoseconds_before_epoch, nanoseconds_after_epoch}
use Rattle.parsing_components.specs.declared.fields.Record.{Record}
use Rattle.parsing_components.specs.declared.said.Read.{Read}
use Rattle.parsing_components.specs.declared.said.Read.TheVariants as read

abbrev pub InRange : ℕ → ℕ → Option ℕ → Type 0
InRange low high o = IfSome o (λ v. (low ≤ v) × (v ≤ high))

abbrev pub InSigned : ℤ → ℤ → Option ℤ → Type 0
InSigned low high o = IfSome o (λ v. (low ≤ℤ v) × (v ≤ℤ high))

-- at most so far from 0
abbrev pub Reaches : ℕ → Option ℤ → Type 0
Reaches n o = InSigned (neg_ℤ (pos n)) (pos n) o

-- what is said is in the range of its field
abbrev pub IsInRange : Read → Type 0
IsInRange (read.Year y) = Reaches greatest_year (Some y)
IsInRange (read.YearCentury c negative) = Reaches greatest_century (Some c)
IsInRange (read.YearLastTwo n) = n ≤ 99
IsInRange (read.IsoYear y) = Reaches greatest_year (Some y)
IsInRange (read.IsoYearCentury c negative) = Reaches greatest_century (Some c)
IsInRange (read.IsoYearLastTwo n) = n ≤ 99
IsInRange (read.SundayWeek n) = n ≤ 53
IsInRange (read.MondayWeek n) = n ≤ 53
IsInRange (read.IsoWeek n) = InRange 1 53 (Some n)
IsInRange (read.Ordinal n) = InRange 1 366 (Some n)
IsInRange (read.Day n) = InRange 1 31 (Some n)
IsInRange (read.Hour24 n) = n ≤ 23
IsInRange (read.Hour12 n) = InRange 1 12 (Some n)
IsInRange (read.Minute n) = n ≤ 59
IsInRange (read.Second n) = n ≤ 60
IsInRange (read.Subsecond n) = n ≤ 999_999_999
IsInRange (read.OffsetHour h negative) = Reaches 25 (Some h)
IsInRange (read.OffsetMinute n) = n ≤ 59
IsInRange (read.OffsetSecond n) = n ≤ 59
IsInRange (read.Unix n) = InSigned (neg_ℤ (pos nanoseconds_before_epoch)) (pos nanoseconds_after_epoch) (Some n)
IsInRange other = Unit {0}

-- each field that is there is in its range
pub record IsWithin (r : Record) : Type 0 where
  pub year : Reaches greatest_year r.year
  pub year_century : Reaches greatest_century r.year_century
  pub year_last_two : InRange 0 99 r.year_last_two
  pub iso_year : Reaches greatest_year r.iso_year
  pub iso_year_century : Reaches greatest_century r.iso_year_century
  pub iso_year_last_two : InRange 0 99 r.iso_year_last_two
  pub sunday_week_number : InRange 0 53 r.sunday_week_number
  pub monday_week_number : InRange 0 53 r.monday_week_number
  pub iso_week_number : InRange 1 53 r.iso_week_number
  pub ordinal : InRange 1 366 r.ordinal
  pub day : InRange 1 31 r.day
  pub hour_24 : InRange 0 23 r.hour_24
  pub hour_12 : InRange 1 12 r.hour_12
  pub minute : InRange 0 59 r.minute
  pub second : InRange 0 60 r.second
  pub subsecond : InRange 0 999_999_999 r.subsecond
  pub offset_hour : Reaches 25 r.offset_hour
  pub offset_minute : Reaches 59 r.offset_minute
  pub offset_second : Reaches 59 r.offset_second
  pub unix_timestamp_nanos : InSigned (neg_ℤ (pos nanoseconds_before_epoch)) (pos nanoseconds_after_epoch) r.unix_timestamp_nanos

-- ---- records

-- a record without any field
abbrev pub empty : Record
empty = record { year = None; year_century = None; year_century_is_negative = false; year_last_two = None; iso_year = None; iso_year_century = None; iso_year_century_is_negative = false; iso_year_last_two = None; month = None; sunday_week_number = None; monday_week_number = None; iso_week_number = None; weekday = None; ordinal = None; day = None; hour_24 = None; hour_12 = None; hour_12_is_pm = None; minute = None; second = None; subsecond = None; offset_hour = None; offset_minute = None; offset_second = None; unix_timestamp_nanos = None; offset_is_negative = false; leap_second_is_permitted = false }

-- a value is set exactly where it is allowed, and else nothing is changed
abbrev pub set_if : Bool → Record → Record → Option (Unit {0}) × Record
set_if allowed old new = if allowed then (Some tt, new) else (None, old)

-- the record with a value, where it is allowed
abbrev pub with_if : Bool → Record → Option Record
with_if allowed new = if allowed then Some new else None

abbrev pub is_between : ℤ → ℤ → ℤ → Bool
is_between low high v = int_le low v && int_le v high

-- at most so far from 0
abbrev pub is_up_to : ℕ → ℤ → Bool
is_up_to n v = is_between (neg_ℤ (pos n)) (pos n) v

-- the sign of a century is its number's, and that of 0 as it is said
abbrev pub century_sign : ℤ → Bool → Bool
century_sign century is_negative = if int_eq century (pos 0) then is_negative else int_lt century (pos 0)
