-- The names of a weekday and of a month, with what stands beside them.
use Rattle.std.specs.Prelude.{◌≡◌, ◌≤◌, ◌+◌, ◌*◌, ℕ, List, drop, get_or, slice_index, Some}
use Rattle.base.specs.Bytes.{space}
use Rattle.calendar_count.specs.Month.{month_number}
use Rattle.calendar_count.specs.declared.month.Month.{Month}
use Rattle.calendar_count.specs.declared.weekday.Weekday.{Weekday}
use Rattle.parsing_rfc2822.specs.Names.{weekday, month}
use Rattle.parsing_rfc2822.specs.Reading.{comma}

-- the first four bytes as one number, the first one lowest
abbrev pub number_of_four : List ℕ → ℕ
number_of_four text =
    slice_index text 0 + slice_index text 1 * 256 + slice_index text 2 * 65_536 + slice_index text 3 * 16_777_216

-- a weekday's name, a comma and a space stand at the start
pub record HasWeekday (text : List ℕ) : Type 0 where
  pub weekday_is : Weekday
  pub named : weekday text ≡ Some (weekday_is, drop 3 text)
  pub letter : 41 ≤ get_or text 0 0
  pub comma_there : get_or text 3 0 ≡ comma
  pub space_there : get_or text 4 0 ≡ space

-- a space and the name of the month with a number do
pub record HasMonth (text : List ℕ) (number : ℕ) : Type 0 where
  pub space_there : get_or text 0 0 ≡ space
  pub letter : 41 ≤ get_or text 1 0
  pub month_is : Month
  pub named : month (drop 1 text) ≡ Some (month_is, drop 4 text)
  pub number_is : month_number month_is ≡ number
