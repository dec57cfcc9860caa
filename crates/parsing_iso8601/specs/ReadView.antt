-- What the code's results stand for.
use Rattle.std.specs.Prelude.{◌≡◌, ℕ, List, length, Result, Ok, Err, Option, option_map, IfSome}
use Rattle.std.specs.Borrow.{Bor}
use Rattle.calendar_count.specs.Month.{month_number}
use Rattle.calendar_count.specs.Weekday.{days_from_monday}
use Rattle.calendar_count.specs.declared.component_range.ComponentRange.{ComponentRange}
use Rattle.parsing_values.specs.NamedDay.{calendar_date_of, ordinal_date_of, iso_week_date_of}
use Rattle.parsing_combinator.specs.Fault.{Fault}
use Rattle.parsing_combinator.specs.FaultOf.{reading_fault}
use Rattle.parsing_combinator.specs.Pieces.{Piece, digit_count}
use Rattle.parsing_combinator.specs.declared.fault.ParseFromDescription.{ParseFromDescription}
use Rattle.parsing_iso8601.specs.declared.written.WrittenDate.{WrittenDate}
use Rattle.parsing_iso8601.specs.declared.written.WrittenDate.TheVariants.{OfMonth, OfYear, OfWeek}
use Rattle.parsing_iso8601.specs.Numbers.{fraction_digits}
use Rattle.parsing_iso8601.specs.Times.{subsecond_of}

-- a date, or the fault that a refusal stands for
abbrev pub date_view : Result WrittenDate ParseFromDescription → Result WrittenDate Fault
date_view (Ok date) = Ok date
date_view (Err e) = Err (reading_fault e)

-- the digits of a fraction, with the bytes after the reference
abbrev pub digits_view : Option (Bor (List ℕ)) → Option (List ℕ)
digits_view run = option_map (λ ds. ds.now) run

-- all of them digits
abbrev pub AreDigits : Option (Bor (List ℕ)) → Type 0
AreDigits run = IfSome run (λ ds. digit_count ds.now ≡ length ds.now)

-- the nanoseconds of a fraction of a second, or of none
unfoldable pub subsecond : Piece ℕ
subsecond bytes = option_map (λ x. (subsecond_of x.0, x.1)) (fraction_digits bytes)

-- the day that a date names, by its count
abbrev pub day_named : WrittenDate → Result ℕ ComponentRange
day_named (OfMonth year month day) = calendar_date_of year (month_number month) day
day_named (OfYear year ordinal) = ordinal_date_of year ordinal
day_named (OfWeek year week weekday) = iso_week_date_of year week (days_from_monday weekday)
