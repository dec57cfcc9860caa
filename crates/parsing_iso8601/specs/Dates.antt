-- A date: year, month and day; or year and day of the year; or the year of weeks, week and day of the week (ISO 8601-1:2019, 5.2).
use Rattle.std.specs.Prelude.{ℕ, List, Result, Ok, Err, codes, nat_le, ℤ}
use Rattle.calendar_count.specs.declared.month.Month.{Month}
use Rattle.calendar_count.specs.declared.weekday.Weekday.{Weekday}
use Rattle.parsing_combinator.specs.Fault.{Fault, component}
use Rattle.parsing_combinator.specs.Pieces.{byte}
use Rattle.parsing_combinator.specs.Readings.{Reading, ◌or◌, ◌>>=◌, ◌>>◌, give, if_there, require}
use Rattle.parsing_iso8601.specs.declared.kind.Kind.{Kind}
use Rattle.parsing_iso8601.specs.declared.written.WrittenDate.{WrittenDate}
use Rattle.parsing_iso8601.specs.declared.written.WrittenDate.TheVariants.{OfMonth, OfYear, OfWeek}
use Rattle.parsing_iso8601.specs.Designators.{week_designator}
use Rattle.parsing_iso8601.specs.Kinds.{dash, kind_of_date}
use Rattle.parsing_iso8601.specs.Numbers.{digits_within, numbered, months, weekdays, year}

-- `04-12` or `0412`; a month is 01 to 12, and no day is 00
unfoldable pub month_and_day : Kind → Reading (Month × ℕ)
month_and_day kind = do
  month ← numbered 2 months or component (codes "month")
  dash kind
  day ← digits_within 2 1 99 or component (codes "day")
  give (month, day)

-- `15-5` or `155`; no week is 00, and a weekday is 1 to 7
unfoldable pub week_and_weekday : Kind → Reading (ℕ × Weekday)
week_and_weekday kind = do
  week ← digits_within 2 1 99 or component (codes "week")
  dash kind
  weekday ← numbered 1 weekdays or component (codes "weekday")
  give (week, weekday)

-- a month and a day were read
unfoldable pub date_of_month : ℤ → Month → ℕ → Reading WrittenDate
date_of_month year month day = do
  require (nat_le day 31) (component (codes "day"))
  give (OfMonth year month day)

unfoldable pub date_of_year : ℤ → ℕ → Reading WrittenDate
date_of_year year ordinal = do
  require (nat_le ordinal 366) (component (codes "ordinal"))
  give (OfYear year ordinal)

-- after the `W`
unfoldable pub date_of_week : Kind → ℤ → Reading WrittenDate
date_of_week kind year = do
  w ← week_and_weekday kind
  require (nat_le w.0 53) (component (codes "week"))
  give (OfWeek year w.0 w.1)

-- nothing is read, and the fault is given
abbrev pub refuse : {A : Type 0} → Fault → Reading A
refuse f bytes = Err f

-- where no month and day were read: three digits that aren't 000, or `W` and a week, or what the month and day lacked
unfoldable pub date_without_month : Kind → ℤ → Fault → Reading WrittenDate
date_without_month kind year fault =
    if_there (digits_within 3 1 999) (λ ordinal. date_of_year year ordinal)
    (if_there (byte week_designator) (λ _. date_of_week kind year) (refuse fault))

-- a first reading, and what follows it or, from the same bytes, its fault
abbrev pub either : {A B : Type 0} → Result (A × List ℕ) Fault → (A → Reading B) → (Fault → Reading B) → Reading B
either (Ok x) due other bytes = due x.0 x.1
either (Err f) due other bytes = other f bytes

-- the date after the year. A form whose pieces were all read is the date, or refuses it; no other form is tried
unfoldable pub date_after : Kind → ℤ → Reading WrittenDate
date_after kind year bytes =
    either (month_and_day kind bytes) (λ md. date_of_month year md.0 md.1) (λ fault. date_without_month kind year fault) bytes

-- the year, and the kind of all that follows
unfoldable pub year_and_kind : Reading (ℤ × Kind)
year_and_kind = do
  y ← year or component (codes "year")
  kind ← kind_of_date
  give (y, kind)
