-- What the parts of a text say of a moment.
use Rattle.std.specs.Prelude.{true, false, Option, Some, None, ℤ}
use Rattle.parsing_values.specs.declared.date_parts.YearParts.{YearParts}
use Rattle.parsing_values.specs.declared.date_parts.DateParts.{DateParts}
use Rattle.parsing_values.specs.declared.parts.TimeParts.{TimeParts}
use Rattle.parsing_values.specs.declared.parts.OffsetParts.{OffsetParts}
use Rattle.parsing_values.specs.declared.parts.MomentParts.{MomentParts}
use Rattle.parsing_iso8601.specs.declared.written.Iso8601Parts.{Iso8601Parts}
use Rattle.parsing_iso8601.specs.declared.written.WrittenDate.{WrittenDate}
use Rattle.parsing_iso8601.specs.declared.written.WrittenDate.TheVariants.{OfMonth, OfYear, OfWeek}
use Rattle.parsing_iso8601.specs.declared.written.WrittenTime.{WrittenTime}
use Rattle.parsing_iso8601.specs.declared.written.WrittenOffset.{WrittenOffset}

-- a whole year, and no century
abbrev pub year_parts : Option ℤ → YearParts
year_parts year = record { year = year; century = None; century_is_negative = false; last_two = None }

abbrev pub no_date : DateParts
no_date = record { year = year_parts None; iso_year = year_parts None; ordinal = None; month = None; day = None; weekday = None; iso_week = None; sunday_week = None; monday_week = None }

abbrev pub date_parts : Option WrittenDate → DateParts
date_parts None = no_date
date_parts (Some (OfMonth year month day)) = record no_date { year = year_parts (Some year); month = Some month; day = Some day }
date_parts (Some (OfYear year ordinal)) = record no_date { year = year_parts (Some year); ordinal = Some ordinal }
date_parts (Some (OfWeek year week weekday)) = record no_date { iso_year = year_parts (Some year); iso_week = Some week; weekday = Some weekday }

-- the hour, the minute, the second and the nanosecond, also where they aren't written
abbrev pub time_parts : Option WrittenTime → TimeParts
time_parts None = record { hour_24 = None; hour_12 = None; hour_12_is_pm = None; minute = None; second = None; subsecond = None }
time_parts (Some t) = record { hour_24 = Some t.hour; hour_12 = None; hour_12_is_pm = None; minute = Some t.minute; second = Some t.second; subsecond = Some t.subsecond }

-- the offset's seconds are said by `Z` alone
abbrev pub offset_parts : Option WrittenOffset → OffsetParts
offset_parts None = record { hour = None; minute = None; second = None }
offset_parts (Some o) = record { hour = Some o.hour; minute = Some o.minute; second = o.second }

-- second 60 stands for the last nanosecond before it
abbrev pub parts_of : Iso8601Parts → MomentParts
parts_of w = record { date = date_parts w.date; time = time_parts w.time; leap_second_is_permitted = true; unix_nanoseconds = None }

abbrev pub offset_parts_of : Iso8601Parts → OffsetParts
offset_parts_of w = offset_parts w.offset

-- a text that has all three
abbrev pub all_three : WrittenDate → WrittenTime → WrittenOffset → Iso8601Parts
all_three date time offset = record { date = Some date; time = Some time; offset = Some offset }
