-- Endless walks: the item that is due, and what one call of `next` gives and leaves.
use Rattle.std.specs.Prelude.{◌≡◌, Option, Some}
use Rattle.calendar_count.specs.declared.month.Month.{Month}
use Rattle.calendar_count.specs.declared.weekday.Weekday.{Weekday}
use Rattle.calendar_count.specs.Month.{month_number, next_month}
use Rattle.calendar_count.specs.Weekday.{days_from_monday, next_weekday}

-- the month that was due, and the one after it is due
abbrev pub YieldsMonth : Month → Option Month → Month → Type 0
YieldsMonth due item left = (item ≡ Some due) × (month_number left ≡ next_month (month_number due))

-- the month that was due, and the one before it is due
abbrev pub YieldsMonthBack : Month → Option Month → Month → Type 0
YieldsMonthBack due item left = (item ≡ Some due) × (next_month (month_number left) ≡ month_number due)

-- the day of the week that was due, and the one after it is due
abbrev pub YieldsWeekday : Weekday → Option Weekday → Weekday → Type 0
YieldsWeekday due item left = (item ≡ Some due) × (days_from_monday left ≡ next_weekday (days_from_monday due))

-- the day of the week that was due, and the one before it is due
abbrev pub YieldsWeekdayBack : Weekday → Option Weekday → Weekday → Type 0
YieldsWeekdayBack due item left = (item ≡ Some due) × (next_weekday (days_from_monday left) ≡ days_from_monday due)
