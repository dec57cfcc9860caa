-- What the values of a record are made from.
use Rattle.std.specs.Prelude.{ℤ, neg_ℤ, Bool, Option, option_map, if◌then◌else◌}
use Rattle.parsing_values.specs.declared.date_parts.DateParts.{DateParts}
use Rattle.parsing_values.specs.declared.parts.TimeParts.{TimeParts}
use Rattle.parsing_values.specs.declared.parts.OffsetParts.{OffsetParts}
use Rattle.parsing_values.specs.declared.parts.MomentParts.{MomentParts}
use Rattle.parsing_components.specs.declared.fields.Record.{Record}

abbrev pub date_parts : Record → DateParts
date_parts r = record { year = record { year = r.year; century = r.year_century; century_is_negative = r.year_century_is_negative; last_two = r.year_last_two }; iso_year = record { year = r.iso_year; century = r.iso_year_century; century_is_negative = r.iso_year_century_is_negative; last_two = r.iso_year_last_two }; ordinal = r.ordinal; month = r.month; day = r.day; weekday = r.weekday; iso_week = r.iso_week_number; sunday_week = r.sunday_week_number; monday_week = r.monday_week_number }

abbrev pub time_parts : Record → TimeParts
time_parts r = record { hour_24 = r.hour_24; hour_12 = r.hour_12; hour_12_is_pm = r.hour_12_is_pm; minute = r.minute; second = r.second; subsecond = r.subsecond }

-- minutes and seconds count against the offset where its hour was read after a minus
abbrev pub under_sign : Bool → Option ℤ → Option ℤ
under_sign is_negative n = if is_negative then option_map neg_ℤ n else n

abbrev pub offset_parts : Record → OffsetParts
offset_parts r = record { hour = r.offset_hour; minute = under_sign r.offset_is_negative r.offset_minute; second = under_sign r.offset_is_negative r.offset_second }

abbrev pub moment_parts : Record → MomentParts
moment_parts r = record { date = date_parts r; time = time_parts r; leap_second_is_permitted = r.leap_second_is_permitted; unix_nanoseconds = r.unix_timestamp_nanos }
