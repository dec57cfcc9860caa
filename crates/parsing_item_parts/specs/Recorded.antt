-- The record that parts set, and what it has to name a moment.
use Rattle.std.specs.Prelude.{◌*◌, ◌==◌, ℕ, pos, true, Some, if◌then◌else◌}
use Rattle.base.specs.Bytes.{hyphen}
use Rattle.parsing_components.specs.Ranged.{counted, months, from_monday, under}
use Rattle.parsing_components.specs.declared.fields.Record.{Record}
use Rattle.parsing_layout.specs.Layout.{Values}
use Rattle.parsing_layout.specs.declared.parts.Field.{Field}
use Rattle.parsing_layout.specs.Said.{Said}
use Rattle.parsing_layout.specs.declared.parts.Field.TheVariants as field

-- what is said takes the place of what was there
abbrev pub recorded : Said → Values → Record → Record
recorded has v r = record r {
  year = if has field.Year then Some (pos (v field.Year)) else r.year;
  month = if has field.Month then counted true months (v field.Month) else r.month;
  day = if has field.Day then Some (v field.Day) else r.day;
  weekday = if has field.Weekday then counted true from_monday (v field.Weekday) else r.weekday;
  iso_week_number = if has field.IsoWeek then Some (v field.IsoWeek) else r.iso_week_number;
  hour_24 = if has field.Hour then Some (v field.Hour) else r.hour_24;
  hour_12 = if has field.HourOfHalf then Some (v field.HourOfHalf) else r.hour_12;
  hour_12_is_pm = if has field.Half then Some (v field.Half == 1) else r.hour_12_is_pm;
  minute = if has field.Minute then Some (v field.Minute) else r.minute;
  second = if has field.Second then Some (v field.Second) else r.second;
  subsecond = if has field.Nanosecond then Some (v field.Nanosecond) else r.subsecond;
  offset_hour = if has field.OffsetHour then Some (under (v field.Sign == hyphen) (v field.OffsetHour)) else r.offset_hour;
  offset_is_negative = if has field.OffsetHour then v field.Sign == hyphen else r.offset_is_negative;
  offset_minute = if has field.OffsetMinute then Some (pos (v field.OffsetMinute)) else r.offset_minute;
  unix_timestamp_nanos = if has field.Unix then Some (pos (v field.Unix * 1_000_000_000)) else r.unix_timestamp_nanos;
}

-- the number of a field, or another one where it is not said
abbrev pub said_or : Said → Values → Field → ℕ → ℕ
said_or has v f other = if has f then v f else other
