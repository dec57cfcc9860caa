-- What a text of RFC 3339, RFC 2822 or ISO 8601 sets in a record: all that it says, and the permission of a leap second.
use Rattle.std.specs.Prelude.{true, Option, Some, None, pos, if◌then◌else◌}
use Rattle.std.specs.Option.{option_or}
use Rattle.parsing_combinator.specs.declared.zone.Zone.{Zone}
use Rattle.parsing_components.specs.Ranged.{under, counted, months}
use Rattle.parsing_components.specs.declared.fields.Record.{Record}
use Rattle.parsing_rfc3339.specs.declared.parts.Rfc3339Parts.{Rfc3339Parts}
use Rattle.parsing_rfc2822.specs.declared.parts.Rfc2822Parts.{Rfc2822Parts}
use Rattle.parsing_iso8601.specs.declared.written.Iso8601Parts.{Iso8601Parts}
use Rattle.parsing_iso8601.specs.declared.written.WrittenDate.{WrittenDate}
use Rattle.parsing_iso8601.specs.declared.written.WrittenDate.TheVariants.{OfMonth, OfYear, OfWeek}
use Rattle.parsing_iso8601.specs.declared.written.WrittenTime.{WrittenTime}
use Rattle.parsing_iso8601.specs.declared.written.WrittenOffset.{WrittenOffset}

-- a zone with a name has no seconds; one with a sign says nothing of them
abbrev pub put_zone : Zone → Record → Record
put_zone z r = record r { offset_hour = Some (under z.is_negative z.hours); offset_minute = Some (under z.is_negative z.minutes); offset_second = if z.is_named then Some (pos 0) else r.offset_second }

abbrev pub put_rfc3339 : Rfc3339Parts → Record → Record
put_rfc3339 w r =
    put_zone w.zone (record r { year = Some (pos w.year); month = counted true months w.month; day = Some w.day; hour_24 = Some w.hour; minute = Some w.minute; second = Some w.second; subsecond = option_or w.subsecond r.subsecond; leap_second_is_permitted = true })

abbrev pub put_rfc2822 : Rfc2822Parts → Record → Record
put_rfc2822 w r =
    put_zone w.zone (record r { weekday = option_or w.weekday r.weekday; year = Some (pos w.year); month = Some w.month; day = Some w.day; hour_24 = Some w.hour; minute = Some w.minute; second = option_or w.second r.second; leap_second_is_permitted = true })

abbrev pub put_date : Option WrittenDate → Record → Record
put_date None r = r
put_date (Some (OfMonth year month day)) r = record r { year = Some year; month = Some month; day = Some day }
put_date (Some (OfYear year ordinal)) r = record r { year = Some year; ordinal = Some ordinal }
put_date (Some (OfWeek year week weekday)) r = record r { iso_year = Some year; iso_week_number = Some week; weekday = Some weekday }

abbrev pub put_time : Option WrittenTime → Record → Record
put_time None r = r
put_time (Some t) r = record r { hour_24 = Some t.hour; minute = Some t.minute; second = Some t.second; subsecond = Some t.subsecond }

abbrev pub put_offset : Option WrittenOffset → Record → Record
put_offset None r = r
put_offset (Some o) r = record r { offset_hour = Some o.hour; offset_minute = Some o.minute; offset_second = option_or o.second r.offset_second }

abbrev pub put_iso8601 : Iso8601Parts → Record → Record
put_iso8601 w r = put_offset w.offset (put_time w.time (put_date w.date (record r { leap_second_is_permitted = true })))
