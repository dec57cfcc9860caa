-- The instants at which a rule changes the clock in a year: POSIX.1-2024, section 8.3, `TZ`. Days are counted from 0001-01-01, which is a Monday.
use Rattle.std.specs.Prelude.{◌≡◌, ◌<◌, ◌≤◌, ℕ, ◌+◌, ◌-◌, ◌*◌, ◌/◌, ◌%◌, ◌==◌, ◌&&◌, ◌||◌, not, Bool, true, false, nat_lt, int_le, ℤ, pos, ◌+ℤ◌, ◌-ℤ◌, ◌*ℤ◌, if◌then◌else◌, List, [], ◌∷◌, get_or}
use Rattle.zones_rule.specs.declared.rule.Day.{Day}
use Rattle.zones_rule.specs.declared.rule.Day.TheVariants.{Julian, Numbered, Weekday}
use Rattle.zones_rule.specs.declared.rule.Change.{Change}
use Rattle.zones_rule.specs.declared.rule.Summer.{Summer}
use Rattle.zones_rule.specs.declared.years.Transition.{Transition}

abbrev pub is_leap : ℕ → Bool
is_leap year = (year % 4 == 0) && (not (year % 100 == 0) || (year % 400 == 0))

-- the first day of a year: 365 days for each year before it, and one for each that was a leap year
abbrev pub first_day : ℕ → ℕ
first_day year = (year - 1) * 365 + (year - 1) / 4 + (year - 1) / 400 - (year - 1) / 100

-- how many days of a year of 365 lie before a month
abbrev pub days_before : List ℕ
days_before = 0 ∷ 31 ∷ 59 ∷ 90 ∷ 120 ∷ 151 ∷ 181 ∷ 212 ∷ 243 ∷ 273 ∷ 304 ∷ 334 ∷ []

abbrev pub first_day_of_month : ℕ → ℕ → ℕ
first_day_of_month year month = first_day year + get_or days_before (month - 1) 0 + (if nat_lt 2 month && is_leap year then 1 else 0)

abbrev pub first_day_after : ℕ → ℕ → ℕ
first_day_after year month = if nat_lt month 12 then first_day_of_month year (month + 1) else first_day (year + 1)

-- the first day from one on that is the weekday, from Sunday as 0
abbrev pub weekday_from : ℕ → ℕ → ℕ
weekday_from day weekday = day + (weekday + 7 - (day + 1) % 7) % 7

-- `Mm.w.d`: of the month that weekday for the time that the week says, and where it does not come a fifth time the fourth
abbrev pub unless_after : ℕ → ℕ → ℕ
unless_after found next = if nat_lt found next then found else found - 7

abbrev pub weekday_in : ℕ → ℕ → ℕ → ℕ → ℕ
weekday_in year month week weekday = unless_after (weekday_from (first_day_of_month year month) weekday + (week - 1) * 7) (first_day_after year month)

-- `Mm.w.d` in words: that weekday of the month, in its week of the seven days from the month's first on, or for the fifth week the last
pub record IsWeekday (first next week weekday day : ℕ) : Type 0 where
  pub is_weekday : (day + 1) % 7 ≡ weekday
  pub in_month : (first ≤ day) × (day < next)
  pub in_week : week < 5 → (first + (week - 1) * 7 ≤ day) × (day < first + week * 7)
  pub is_last : week ≡ 5 → next ≤ day + 7

-- `Jn` is counted from 1, and February 29 is not counted; `n` is counted from 0, and it is
unfoldable pub day_in : Day → ℕ → ℕ
day_in (Julian number) year = first_day year + number + (if nat_lt 59 number && is_leap year then 1 else 0) - 1
day_in (Numbered number) year = first_day year + number
day_in (Weekday month week weekday) year = weekday_in year month week weekday

-- the instant at which so many seconds have passed since the midnight of the day, by a clock that is ahead of UTC by an offset
abbrev pub instant_in : Change → ℕ → ℤ → ℤ
instant_in change year offset = ((pos (day_in change.day year) -ℤ pos 719_162) *ℤ pos 86_400) +ℤ (change.time -ℤ offset)

-- summer time begins by the clock of standard time, and ends by its own
unfoldable pub start_in : ℤ → Summer → ℕ → Transition
start_in standard summer year = record { at = instant_in summer.start year standard; is_summer = true }

unfoldable pub end_in : ℤ → Summer → ℕ → Transition
end_in standard summer year = record { at = instant_in summer.end year summer.offset; is_summer = false }

-- a year's two transitions in the order of their instants
abbrev pub paired : Bool → Transition → Transition → Transition × Transition
paired true start end = (start, end)
paired false start end = (end, start)

abbrev pub in_order : Transition → Transition → Transition × Transition
in_order start end = paired (int_le start.at end.at) start end

unfoldable pub transitions_in : ℤ → Summer → ℕ → Transition × Transition
transitions_in standard summer year = in_order (start_in standard summer year) (end_in standard summer year)

abbrev pub first_in : ℤ → Summer → ℕ → Transition
first_in standard summer year = (transitions_in standard summer year).0

abbrev pub second_in : ℤ → Summer → ℕ → Transition
second_in standard summer year = (transitions_in standard summer year).1
