-- What a component sets in a record.
use Rattle.std.specs.Prelude.{◌≡◌, ℕ, List, pos, Some, Result, Ok, Err}
use Rattle.std.specs.Borrow.{Bor}
use Rattle.parsing_combinator.specs.Fault.{Fault}
use Rattle.parsing_combinator.specs.FaultOf.{reading_fault}
use Rattle.parsing_combinator.specs.Readings.{Reading, then_read, give}
use Rattle.parsing_combinator.specs.declared.fault.ParseFromDescription.{ParseFromDescription}
use Rattle.parsing_components.specs.declared.said.Read.{Read}
use Rattle.parsing_components.specs.declared.said.Read.TheVariants as read
use Rattle.parsing_components.specs.declared.fields.Record.{Record}

-- the parts of an offset, and Unix time
abbrev pub put_offset : Read → Record → Record
put_offset (read.OffsetHour h is_negative) r = record r { offset_hour = Some h; offset_is_negative = is_negative }
put_offset (read.OffsetMinute n) r = record r { offset_minute = Some (pos n) }
put_offset (read.OffsetSecond n) r = record r { offset_second = Some (pos n) }
put_offset (read.Unix n) r = record r { unix_timestamp_nanos = Some n }
put_offset other r = r

-- the parts of a time of day
abbrev pub put_time : Read → Record → Record
put_time (read.Hour24 n) r = record r { hour_24 = Some n }
put_time (read.Hour12 n) r = record r { hour_12 = Some n }
put_time (read.Afternoon b) r = record r { hour_12_is_pm = Some b }
put_time (read.Minute n) r = record r { minute = Some n }
put_time (read.Second n) r = record r { second = Some n }
put_time (read.Subsecond n) r = record r { subsecond = Some n }
put_time other r = put_offset other r

-- the parts of a date but the year
abbrev pub put_date : Read → Record → Record
put_date (read.Month m) r = record r { month = Some m }
put_date (read.SundayWeek n) r = record r { sunday_week_number = Some n }
put_date (read.MondayWeek n) r = record r { monday_week_number = Some n }
put_date (read.IsoWeek n) r = record r { iso_week_number = Some n }
put_date (read.Weekday w) r = record r { weekday = Some w }
put_date (read.Ordinal n) r = record r { ordinal = Some n }
put_date (read.Day n) r = record r { day = Some n }
put_date other r = put_time other r

-- what a component says takes the place of what was there
abbrev pub put : Read → Record → Record
put (read.Year y) r = record r { year = Some y }
put (read.YearCentury c is_negative) r = record r { year_century = Some c; year_century_is_negative = is_negative }
put (read.YearLastTwo n) r = record r { year_last_two = Some n }
put (read.IsoYear y) r = record r { iso_year = Some y }
put (read.IsoYearCentury c is_negative) r = record r { iso_year_century = Some c; iso_year_century_is_negative = is_negative }
put (read.IsoYearLastTwo n) r = record r { iso_year_last_two = Some n }
put other r = put_date other r

-- bytes that are passed over say nothing
abbrev pub passed : Bor (List ℕ) → Read × List ℕ
passed rest = (read.Nothing, rest.now)

-- ---- readings into a record

-- a record and the rest, or a fault
abbrev pub Answer : Type 0
Answer = Result (Record × List ℕ) Fault

abbrev pub Meaning : Type 0
Meaning = Record → Reading Record

-- what is said, put into the record
abbrev pub putting : Reading Read → Meaning
putting reading r bytes = then_read (reading bytes) (λ said. give (put said r))

-- the rest and the record after it, or the fault and the record unchanged
abbrev pub Reads : Result (Bor (List ℕ)) ParseFromDescription → Record → Record → Answer → Type 0
Reads (Ok rest) old new read = read ≡ Ok (new, rest.now)
Reads (Err e) old new read = (read ≡ Err (reading_fault e)) × (new ≡ old)
