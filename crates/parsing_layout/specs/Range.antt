-- The range of the number of each field.
use Rattle.std.specs.Prelude.{◌≡◌, ◌≤◌, ◌<◌, ℕ, Bool, true, false}
use Rattle.parsing_layout.specs.Layout.{Field, Values}
use Rattle.parsing_layout.specs.Said.{Said}
use Rattle.parsing_layout.specs.declared.parts.Field.TheVariants as field

abbrev pub least : Field → ℕ
least field.Month = 1
least field.Day = 1
least field.Weekday = 1
least field.IsoWeek = 1
least field.HourOfHalf = 1
least field.Sign = 43
least other = 0

-- (a leap second is not in it)
abbrev pub most : Field → ℕ
most field.Year = 9999
most field.Month = 12
most field.Day = 31
most field.Weekday = 7
most field.IsoWeek = 53
most field.OrdinalTens = 36
most field.OrdinalOnes = 9
most field.Hour = 23
most field.HourOfHalf = 12
most field.Half = 1
most field.Minute = 59
most field.Second = 59
most field.Nanosecond = 999_999_999
most field.Sign = 45
most field.OffsetHour = 25
most field.OffsetMinute = 59
most field.Unix = 9_999_999_999

-- the number of each field that is said is in its range
abbrev pub AreInRange : Said → Values → Type 0
AreInRange has v = (f : Field) → has f ≡ true → (least f ≤ v f) × (v f ≤ most f)

-- and that of every field
abbrev pub IsAllInRange : Values → Type 0
IsAllInRange v = (f : Field) → (least f ≤ v f) × (v f ≤ most f)

-- what stands for a number before it is read: one out of its range, for a day, a minute, an hour or one of half a day, and what else has to be read
pub record AreUnread (is_half has_second has_offset : Bool) (v : Values) : Type 0 where
  pub month : 12 < v field.Month
  pub day : 31 < v field.Day
  pub minute : 59 < v field.Minute
  pub hour : is_half ≡ false → 23 < v field.Hour
  pub half_hour : is_half ≡ true → 12 < v field.HourOfHalf
  pub half : is_half ≡ true → 1 < v field.Half
  pub second : has_second ≡ true → 59 < v field.Second
  pub no_second : has_second ≡ false → v field.Second ≡ 0
  pub fraction : v field.Nanosecond ≡ 0
  pub offset_hour : has_offset ≡ true → 25 < v field.OffsetHour
  pub offset_minute : has_offset ≡ true → 59 < v field.OffsetMinute
