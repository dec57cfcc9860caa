-- The time of day and the offset that the parts of a text name.
use Rattle.std.specs.Prelude.{ℕ, ◌+◌, ◌%◌, Bool, Option, None, Some, Result, if◌then◌else◌, ℤ, pos}
use Rattle.std.specs.Option.{option_or, unwrap_or}
use Rattle.calendar.specs.UtcOffset.{offset_of}
use Rattle.parsing_combinator.specs.Fault.{Fault}
use Rattle.parsing_values.specs.Resolution.{permitted_time_of}
use Rattle.parsing_values.specs.NamedDate.{◌>>=◌, named_by}
use Rattle.parsing_values.specs.declared.parts.TimeParts.{TimeParts}
use Rattle.parsing_values.specs.declared.parts.OffsetParts.{OffsetParts}

-- 12 AM begins the day, 12 PM its second half
abbrev pub hour_of_half : ℕ → Bool → ℕ
hour_of_half hour is_pm = hour % 12 + (if is_pm then 12 else 0)

unfoldable pub half_day_hour : TimeParts → Option ℕ
half_day_hour p = do
  hour ← p.hour_12
  is_pm ← p.hour_12_is_pm
  Some (hour_of_half hour is_pm)

-- an hour of the whole day, and else one of a half day
unfoldable pub hour_of : TimeParts → Option ℕ
hour_of p = option_or p.hour_24 (half_day_hour p)

-- minute, second and nanosecond: none may be absent where a finer one is there, and those that are absent are 0
unfoldable pub finer_parts : Option ℕ → Option ℕ → Option ℕ → Option (ℕ × ℕ × ℕ)
finer_parts None None None = Some (0, 0, 0)
finer_parts None None (Some nanosecond) = None
finer_parts None (Some second) nanosecond = None
finer_parts (Some minute) None None = Some (minute, 0, 0)
finer_parts (Some minute) None (Some nanosecond) = None
finer_parts (Some minute) (Some second) nanosecond = Some (minute, second, unwrap_or nanosecond 0)

-- the time of day, where second 60 may be permitted
unfoldable pub named_time : Bool → TimeParts → Result ℕ Fault
named_time leap_second_is_permitted p = named_by (do
  hour ← hour_of p
  finer ← finer_parts p.minute p.second p.subsecond
  Some (permitted_time_of leap_second_is_permitted hour finer.0 finer.1 finer.2))

-- the offset in seconds: its hour has to be there, and its seconds count only after minutes
unfoldable pub seconds_after : Option ℤ → Option ℤ → ℤ
seconds_after None second = pos 0
seconds_after (Some minute) second = unwrap_or second (pos 0)

unfoldable pub named_offset : OffsetParts → Result ℤ Fault
named_offset p = named_by (do
  hour ← p.hour
  Some (offset_of hour (unwrap_or p.minute (pos 0)) (seconds_after p.minute p.second)))
