-- The texts of date-times.
use Rattle.std.specs.Prelude.{ℕ, ◌/◌, ◌%◌, ◌==◌, if◌then◌else◌, List, [], ◌∷◌, ◌++◌, codes, ℤ, pos, unsigned_abs, int_lt}
use Rattle.std.specs.Fmt.{decimal}
use Rattle.base.specs.Bytes.{space, dot}
use Rattle.calendar_count.specs.Digits.{nine_digits, without_zeros}
use Rattle.calendar.specs.DateText.{date_text}
use Rattle.calendar.specs.Time.{time_text}
use Rattle.calendar.specs.UtcOffset.{offset_text}
use Rattle.datetime_wall.specs.Wall.{second_nanos, Shown, day_of, nanosecond_of}

-- the fraction of a second, where there is one
abbrev pub fraction_text : ℕ → List ℕ
fraction_text nanosecond = if nanosecond == 0 then [] else dot ∷ without_zeros (nine_digits nanosecond)

-- the exact decimal of the seconds: `1546300800`, `-0.001`
abbrev pub seconds_text : ℤ → List ℕ
seconds_text instant =
    let length = unsigned_abs instant in
    (if int_lt instant (pos 0) then codes "-" else []) ++ decimal (length / second_nanos) ++ fraction_text (length % second_nanos)

-- `2024-06-19 7:05:00.25`
abbrev pub plain_text : ℤ → List ℕ
plain_text wall = date_text (day_of wall) ++ space ∷ time_text (nanosecond_of wall)

-- `2024-06-19 7:05:00.25 +00`
abbrev pub utc_text : ℤ → List ℕ
utc_text wall = plain_text wall ++ codes " +00"

-- `2024-06-19 7:05:00.25 +05:30:00`
abbrev pub shown_text : Shown → List ℕ
shown_text m = plain_text m.wall ++ space ∷ offset_text m.offset
