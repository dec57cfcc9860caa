-- The date that the parts of a text name.
use Rattle.std.specs.Prelude.{ℕ, Bool, Option, None, Some, Result, Ok, Err, if◌then◌else◌, ℤ, pos, ◌+ℤ◌, ◌-ℤ◌, ◌*ℤ◌}
use Rattle.std.specs.Option.{option_or}
use Rattle.calendar_count.specs.Month.{month_number}
use Rattle.calendar_count.specs.Weekday.{days_from_monday}
use Rattle.calendar_count.specs.declared.component_range.ComponentRange.{ComponentRange}
use Rattle.parsing_combinator.specs.Fault.{Fault, insufficient, range}
use Rattle.parsing_values.specs.declared.date_parts.YearParts.{YearParts}
use Rattle.parsing_values.specs.declared.date_parts.DateParts.{DateParts}
use Rattle.parsing_values.specs.NamedDay.{calendar_date_of, ordinal_date_of, iso_week_date_of, monday_week_date_of, sunday_week_date_of}

-- a group of parts is there where each of them is
infixl 10 ◌>>=◌
abbrev pub ◌>>=◌ : {A B : Type 0} → Option A → (A → Option B) → Option B
None >>= f = None
Some x >>= f = f x

-- the year of a century and the two digits in it: in a negative one they lead backwards
abbrev pub year_in_century : ℤ → Bool → ℕ → ℤ
year_in_century century is_negative last_two =
    if is_negative then century *ℤ pos 100 -ℤ pos last_two else century *ℤ pos 100 +ℤ pos last_two

unfoldable pub split_year : YearParts → Option ℤ
split_year p = do
  century ← p.century
  last_two ← p.last_two
  Some (year_in_century century p.century_is_negative last_two)

-- a year that is there, and else that of its century and its last two digits
unfoldable pub year_of : YearParts → Option ℤ
year_of p = option_or p.year (split_year p)

unfoldable pub by_ordinal : DateParts → Option (Result ℕ ComponentRange)
by_ordinal p = do
  year ← year_of p.year
  ordinal ← p.ordinal
  Some (ordinal_date_of year ordinal)

unfoldable pub by_day : DateParts → Option (Result ℕ ComponentRange)
by_day p = do
  year ← year_of p.year
  month ← p.month
  day ← p.day
  Some (calendar_date_of year (month_number month) day)

unfoldable pub by_iso_week : DateParts → Option (Result ℕ ComponentRange)
by_iso_week p = do
  year ← year_of p.iso_year
  week ← p.iso_week
  weekday ← p.weekday
  Some (iso_week_date_of year week (days_from_monday weekday))

unfoldable pub by_sunday_week : DateParts → Option (Result ℕ ComponentRange)
by_sunday_week p = do
  year ← year_of p.year
  week ← p.sunday_week
  weekday ← p.weekday
  Some (sunday_week_date_of year week (days_from_monday weekday))

unfoldable pub by_monday_week : DateParts → Option (Result ℕ ComponentRange)
by_monday_week p = do
  year ← year_of p.year
  week ← p.monday_week
  weekday ← p.weekday
  Some (monday_week_date_of year week (days_from_monday weekday))

-- a value, or what is out of range
abbrev pub in_range : {A : Type 0} → Result A ComponentRange → Result A Fault
in_range (Ok x) = Ok x
in_range (Err r) = Err (range r)

-- what a group names; where none is there, the parts say too little
abbrev pub named_by : {A : Type 0} → Option (Result A ComponentRange) → Result A Fault
named_by None = Err insufficient
named_by (Some r) = in_range r

-- the first group that is wholly there
unfoldable pub named_date : DateParts → Result ℕ Fault
named_date p =
    named_by (option_or (by_ordinal p) (option_or (by_day p) (option_or (by_iso_week p) (option_or (by_sunday_week p) (by_monday_week p)))))
