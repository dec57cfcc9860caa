-- The months: their numbers, their order round the year, their names.
use Rattle.std.specs.Prelude.{◌≡◌, ℕ, ◌+◌, ◌==◌, if◌then◌else◌, Result, Ok, Err, List, codes}
use Rattle.std.specs.Int.{IsInRange}
use Rattle.calendar_count.specs.declared.month.Month.{Month}
use Rattle.calendar_count.specs.declared.month.Month.TheVariants.{January, February, March, April, May, June, July, August, September, October, November, December}
use Rattle.calendar_count.specs.declared.component_range.ComponentName.TheVariants as component
use Rattle.calendar_count.specs.declared.component_range.ComponentRange.{ComponentRange}
use Rattle.calendar_count.specs.declared.invalid_variant.InvalidVariant.{InvalidVariant}
use Rattle.calendar_count.specs.ComponentRange.{out_of_range}

-- January is 1
abbrev pub month_number : Month → ℕ
month_number January = 1
month_number February = 2
month_number March = 3
month_number April = 4
month_number May = 5
month_number June = 6
month_number July = 7
month_number August = 8
month_number September = 9
month_number October = 10
month_number November = 11
month_number December = 12

-- the month with this number, or the refusal where there is none
abbrev pub IsMonthOf : ℕ → Result Month ComponentRange → Type 0
IsMonthOf number (Ok month) = month_number month ≡ number
IsMonthOf number (Err refusal) = (refusal ≡ out_of_range component.Month) × ¬ IsInRange 1 12 number

-- after December comes January
abbrev pub next_month : ℕ → ℕ
next_month number = if number == 12 then 1 else number + 1

-- the English name
abbrev pub month_name : Month → List ℕ
month_name January = codes "January"
month_name February = codes "February"
month_name March = codes "March"
month_name April = codes "April"
month_name May = codes "May"
month_name June = codes "June"
month_name July = codes "July"
month_name August = codes "August"
month_name September = codes "September"
month_name October = codes "October"
month_name November = codes "November"
month_name December = codes "December"

-- the month with exactly this name, or the refusal where there is none
abbrev pub IsMonthNamed : List ℕ → Result Month InvalidVariant → Type 0
IsMonthNamed text (Ok month) = month_name month ≡ text
IsMonthNamed text (Err _) = (month : Month) → ¬ (month_name month ≡ text)
