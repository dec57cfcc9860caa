-- The moment that the fields of a date-time name, and their text in UTC.
use Rattle.std.specs.Prelude.{ℕ, ◌+◌, ◌*◌, ◌/◌, ◌%◌, pos, ◌*ℤ◌, List, ◌++◌, codes}
use Rattle.std.specs.Option.{unwrap_or}
use Rattle.calendar_count.specs.TheDay.{the_day, is_day_of}
use Rattle.datetime_wall.specs.Wall.{Shown, wall_clock, second_nanos}
use Rattle.parsing_values.specs.Decimal.{decimal}
use Rattle.parsing_values.specs.declared.fields.Fields.{Fields}

-- the day that has their year, month and day, by its count
abbrev pub day_of_fields : Fields → ℕ
day_of_fields f = unwrap_or (the_day (is_day_of (pos f.year) f.month f.day)) 0

-- the nanosecond of the day
abbrev pub time_of_fields : Fields → ℕ
time_of_fields f = (f.minute * 60 + f.second) * second_nanos + f.fraction

-- their day and time of day on the wall clock, at their offset
unfoldable pub moment_of : Fields → Shown
moment_of f = record { wall = wall_clock (day_of_fields f) (time_of_fields f); offset = pos 60 *ℤ f.offset }

-- fields as they stand, as the text of a moment in UTC: `1985-04-12T23:20:50.520000000Z`
unfoldable pub whole_text : Fields → List ℕ
whole_text f =
    decimal 4 f.year ++ codes "-" ++ decimal 2 f.month ++ codes "-" ++ decimal 2 f.day ++ codes "T" ++ decimal 2 (f.minute / 60) ++ codes ":" ++ decimal 2 (f.minute % 60) ++ codes ":" ++ decimal 2 f.second ++ codes "." ++ decimal 9 f.fraction ++ codes "Z"
