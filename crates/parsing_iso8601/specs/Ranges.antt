-- The ranges of what is written.
use Rattle.std.specs.Prelude.{◌≡◌, ℕ, ◌<◌, ◌≤◌, ℤ, pos, neg_ℤ, ◌≤ℤ◌, IfSome}
use Rattle.std.specs.Int.{IsInRange}
use Rattle.calendar_count.specs.Range.{IsYear}
use Rattle.parsing_iso8601.specs.declared.written.Iso8601Parts.{Iso8601Parts}
use Rattle.parsing_iso8601.specs.declared.written.WrittenDate.{WrittenDate}
use Rattle.parsing_iso8601.specs.declared.written.WrittenDate.TheVariants.{OfMonth, OfYear, OfWeek}
use Rattle.parsing_iso8601.specs.declared.written.WrittenTime.{WrittenTime}
use Rattle.parsing_iso8601.specs.declared.written.WrittenOffset.{WrittenOffset}

-- a day of the month from 1 to 31, a day of the year from 1 to 366, a week from 1 to 53
abbrev pub IsDateInRange : WrittenDate → Type 0
IsDateInRange (OfMonth year month day) = IsYear year × IsInRange 1 31 day
IsDateInRange (OfYear year ordinal) = IsYear year × IsInRange 1 366 ordinal
IsDateInRange (OfWeek year week weekday) = IsYear year × IsInRange 1 53 week

-- hour 0 to 23, minute 0 to 59, second 0 to 60
abbrev pub IsTimeInRange : WrittenTime → Type 0
IsTimeInRange t = (t.hour ≤ 23) × (t.minute ≤ 59) × (t.second ≤ 60) × (t.subsecond < 1_000_000_000)

abbrev pub IsWithin : ℕ → ℤ → Type 0
IsWithin most z = (neg_ℤ (pos most) ≤ℤ z) × (z ≤ℤ pos most)

-- hours within 25 and minutes within 59, either sign; seconds 0, where they are there
abbrev pub IsOffsetInRange : WrittenOffset → Type 0
IsOffsetInRange o = IsWithin 25 o.hour × IsWithin 59 o.minute × IfSome o.second (λ second. second ≡ pos 0)

pub record AreInRange (w : Iso8601Parts) : Type 0 where
  pub date : IfSome w.date IsDateInRange
  pub time : IfSome w.time IsTimeInRange
  pub offset : IfSome w.offset IsOffsetInRange
