-- Moments at another offset, by the minutes between the offsets.
use Rattle.std.specs.Prelude.{◌≡◌, ℕ, ◌+◌, ◌*◌, ◌<◌, ◌≤◌, ℤ, pos, ◌+ℤ◌}
use Rattle.calendar_count.specs.Range.{IsCount}
use Rattle.calendar_count.specs.Calendar.{day_at, ymd}
use Rattle.datetime_wall.specs.Wall.{Shown, instant, wall_at}
use Rattle.parsing_values.specs.Moment.{day_of_fields}
use Rattle.parsing_values.specs.declared.fields.Fields.{Fields}

-- the same instant at another offset, whether or not the calendar has the day there
abbrev pub at_offset : ℤ → Shown → Shown
at_offset offset m = record { wall = wall_at offset (instant m); offset = offset }

-- a day of the fields' month, and a minute of it, so many minutes after the fields' day began
pub record IsMoved (f : Fields) (minutes : ℤ) (day minute : ℕ) : Type 0 where
  pub count : ℕ
  pub in_calendar : IsCount count
  pub day_is : day_at count ≡ ymd (pos f.year) f.month day
  pub day_small : day ≤ 31
  pub within_a_day : minute < 1440
  pub since : pos (count * 1440 + minute) ≡ pos (day_of_fields f * 1440) +ℤ minutes
