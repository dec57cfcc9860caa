-- The names of components.
use Rattle.std.specs.Prelude.{ℕ, List, [], ◌∷◌, Option, codes}
use Rattle.description_lexer.specs.declared.version.DescriptionVersion.{DescriptionVersion}
use Rattle.description_tables.specs.Lookup.{Table, lookup}
use Rattle.description_tables.specs.declared.names.Name.{Name}
use Rattle.description_tables.specs.declared.names.Name.TheVariants as name

-- the components of dates, then those of times, of offsets, and of texts
abbrev pub names : Table Name
names =
    (codes "day", name.Day) ∷ (codes "ordinal", name.Ordinal) ∷ (codes "month", name.Month) ∷ (codes "weekday", name.Weekday) ∷
    (codes "week_number", name.WeekNumber) ∷ (codes "year", name.Year) ∷ (codes "hour", name.Hour) ∷ (codes "minute", name.Minute) ∷
    (codes "second", name.Second) ∷ (codes "period", name.Period) ∷ (codes "subsecond", name.Subsecond) ∷
    (codes "offset_hour", name.OffsetHour) ∷ (codes "offset_minute", name.OffsetMinute) ∷ (codes "offset_second", name.OffsetSecond) ∷
    (codes "unix_timestamp", name.UnixTimestamp) ∷ (codes "ignore", name.Ignore) ∷ (codes "end", name.End) ∷ []

unfoldable pub name_of : DescriptionVersion → List ℕ → Option Name
name_of v word = lookup v names word

abbrev pub name_text : Name → List ℕ
name_text name.Day = codes "day"
name_text name.Ordinal = codes "ordinal"
name_text name.Minute = codes "minute"
name_text name.Second = codes "second"
name_text name.OffsetMinute = codes "offset_minute"
name_text name.OffsetSecond = codes "offset_second"
name_text name.Month = codes "month"
name_text name.Weekday = codes "weekday"
name_text name.WeekNumber = codes "week_number"
name_text name.Year = codes "year"
name_text name.Hour = codes "hour"
name_text name.Period = codes "period"
name_text name.Subsecond = codes "subsecond"
name_text name.OffsetHour = codes "offset_hour"
name_text name.Ignore = codes "ignore"
name_text name.UnixTimestamp = codes "unix_timestamp"
name_text name.End = codes "end"
