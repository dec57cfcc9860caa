-- The text of a moment, as RFC 3339, section 5.6, writes a date-time, with nine digits of a second's fraction.
use Rattle.std.specs.Prelude.{ℕ, ◌/◌, ◌%◌, List, ◌++◌, codes, if◌then◌else◌, Bool, ◌&&◌, IsTrue, int_le, int_lt, ℤ, pos, unsigned_abs}
use Rattle.std.specs.Ordering.{int_eq}
use Rattle.calendar_count.specs.Calendar.{YearMonthDay, day_at}
use Rattle.calendar.specs.UtcOffset.{IsClockOffset}
use Rattle.datetime_wall.specs.Wall.{Shown, day_of, nanosecond_of, second_nanos}
use Rattle.parsing_values.specs.Decimal.{decimal}

unfoldable pub date_text : YearMonthDay → List ℕ
date_text d = decimal 4 (unsigned_abs d.year) ++ codes "-" ++ decimal 2 d.month ++ codes "-" ++ decimal 2 d.day

-- the time of a second of the day and a nanosecond of it
unfoldable pub time_text : ℕ → ℕ → List ℕ
time_text second nanosecond =
    decimal 2 (second / 3600) ++ codes ":" ++ decimal 2 (second / 60 % 60) ++ codes ":" ++ decimal 2 (second % 60) ++ codes "." ++ decimal 9 nanosecond

-- an offset from UTC in seconds, by its hours and minutes
unfoldable pub offset_text : ℤ → List ℕ
offset_text offset =
    if int_eq offset (pos 0) then codes "Z"
    else (if int_lt offset (pos 0) then codes "-" else codes "+") ++ decimal 2 (unsigned_abs offset / 3600) ++ codes ":" ++ decimal 2 (unsigned_abs offset / 60 % 60)

-- a day, a second of it, a nanosecond of that, and an offset
abbrev pub parts_text : YearMonthDay → ℕ → ℕ → ℤ → List ℕ
parts_text day second nanosecond offset = date_text day ++ codes "T" ++ time_text second nanosecond ++ offset_text offset

unfoldable pub moment_text : Shown → List ℕ
moment_text m =
    let nanosecond = nanosecond_of m.wall in
    parts_text (day_at (day_of m.wall)) (nanosecond / second_nanos) (nanosecond % second_nanos) m.offset

-- four digits write the year
unfoldable pub has_written_year : Shown → Bool
has_written_year m =
    let year = (day_at (day_of m.wall)).year in
    int_le (pos 0) year && int_le year (pos 9999)

-- the moment can be written
pub record FitsLine (m : Shown) : Type 0 where
  pub year : IsTrue (has_written_year m)
  pub offset : IsClockOffset m.offset
