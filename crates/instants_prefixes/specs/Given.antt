-- What is given once for dates that lack it, and the moment of what was read with it.
use Rattle.std.specs.Prelude.{ℕ, Bool, ◌&&◌, ◌/◌, ◌%◌, Option, None, Some, option_map, option_and_then, nat_le, nat_lt, unsigned_abs, if◌then◌else◌, ℤ, pos, ◌+ℤ◌, ◌-ℤ◌, int_div, int_rem}
use Rattle.std.specs.Int.{int_rem_euclid}
use Rattle.std.specs.Option.{is_none, option_or}
use Rattle.std.specs.Result.{result_ok}
use Rattle.calendar_count.specs.Calendar.{day_at}
use Rattle.calendar_count.specs.Range.{greatest_year}
use Rattle.datetime_wall.specs.Wall.{Shown, instant, day_of}
use Rattle.parsing_components.specs.declared.fields.Record.{Record}
use Rattle.parsing_record.specs.Record.{is_up_to}
use Rattle.parsing_record.specs.Whole.{moment_named}
-- an offset from UTC in seconds, what is known of the year, and a time of day in minutes
pub use Rattle.instants_prefixes.specs.declared.given.Given.{Given}
-- no year is given; or this one; or that which brings a date nearest to a moment
pub use Rattle.instants_prefixes.specs.declared.given.Years.{Years}
pub use Rattle.instants_prefixes.specs.declared.given.Years.TheVariants.{Unknown, In, Near}

-- nothing is given
abbrev pub nothing : Given
nothing = record { offset = None; zone = None; years = Unknown; time = None }

-- ---- what was not read

-- no hour of an offset was read
abbrev pub lacks_offset : Record → Bool
lacks_offset r = is_none r.offset_hour

-- no year was read: its last two digits alone are none
abbrev pub lacks_year : Record → Bool
lacks_year r = (is_none r.year && is_none r.year_century) && (is_none r.iso_year && is_none r.iso_year_century)

-- no part of a time of day was read
abbrev pub lacks_time : Record → Bool
lacks_time r = (is_none r.hour_24 && is_none r.hour_12 && is_none r.hour_12_is_pm) && (is_none r.minute && is_none r.second && is_none r.subsecond)

-- ---- what is given in place of it

-- the hour and the minute of an offset
abbrev pub with_offset : Option ℤ → Record → Record
with_offset offset r =
    let given = option_and_then (λ o. if lacks_offset r then Some o else None) offset in
    record r { offset_hour = option_or (option_map (λ o. int_div o (pos 3600)) given) r.offset_hour; offset_minute = option_or (option_map (λ o. int_rem (int_div o (pos 60)) (pos 60)) given) r.offset_minute }

-- a minute of a day
abbrev pub with_time : Option ℕ → Record → Record
with_time time r =
    let given = option_and_then (λ n. if lacks_time r && nat_lt n 1440 then Some n else None) time in
    record r { hour_24 = option_or (option_map (λ n. n / 60) given) r.hour_24; minute = option_or (option_map (λ n. n % 60) given) r.minute }

-- of the years with these last two digits the one that is nearest to a year, the earlier of two equally near ones
abbrev pub year_near : ℤ → ℕ → ℤ
year_near year last_two = let first = year -ℤ pos 50 in first +ℤ int_rem_euclid (pos last_two -ℤ first) (pos 100)

-- a year that the calendar has
abbrev pub in_calendar : ℤ → Option ℤ
in_calendar year = if is_up_to greatest_year year then Some year else None

-- the year that is given, and where the last two digits of one year were read, the year nearest to it that has them: one of the calendar, and one of the weeks of ISO 8601
abbrev pub given_years : ℤ → Option ℕ → Option ℕ → Option ℤ × Option ℤ
given_years year None None = (Some year, None)
given_years year (Some last_two) None = (in_calendar (year_near year last_two), None)
given_years year None (Some last_two) = (None, in_calendar (year_near year last_two))
given_years year (Some one) (Some other) = (None, None)

-- a year of either kind
abbrev pub with_year : Option ℤ → Record → Record
with_year year r =
    let given = option_and_then (λ y. if lacks_year r && is_up_to greatest_year y then Some y else None) year in
    record r { year = option_or (option_and_then (λ y. (given_years y r.year_last_two r.iso_year_last_two).0) given) r.year; iso_year = option_or (option_and_then (λ y. (given_years y r.year_last_two r.iso_year_last_two).1) given) r.iso_year }

-- the record with what is given in place of what was not read
abbrev pub completed : Option ℤ → Option ℤ → Option ℕ → Record → Record
completed offset year time r = with_offset offset (with_year year (with_time time r))

-- ---- the moment

-- the moment of a record, with a year given or none
abbrev pub moment_in : Given → Option ℤ → Record → Option Shown
moment_in given year r = result_ok (moment_named (completed given.offset year given.time r))

-- how far two moments lie from one another
abbrev pub distance : Shown → Shown → ℕ
distance one other = unsigned_abs (instant one -ℤ instant other)

-- of two moments the one that is nearer to another, the first of equals
abbrev pub nearer : Shown → Option Shown → Option Shown → Option Shown
nearer above None other = other
nearer above one None = one
nearer above (Some one) (Some other) = if nat_le (distance above one) (distance above other) then Some one else Some other

abbrev pub year_of : Shown → ℤ
year_of moment = (day_at (day_of moment.wall)).year

-- the moment of a record: near a moment above, of the three years round that one's the one that brings it nearest
unfoldable pub moment_of : Given → Years → Record → Option Shown
moment_of given Unknown r = moment_in given None r
moment_of given (In year) r = moment_in given (Some year) r
moment_of given (Near above) r =
    nearer above (nearer above (moment_in given (Some (year_of above -ℤ pos 1)) r) (moment_in given (Some (year_of above)) r))
    (moment_in given (Some (year_of above +ℤ pos 1)) r)
