-- The layouts of RFC 2822, from the day on.
use Rattle.std.specs.Prelude.{◌≡◌, ◌≤◌, ℕ, List, [], ◌∷◌, ◌++◌, drop, true, false, Option, Some, Ok, pos, ◌*ℤ◌}
use Rattle.base.specs.Bytes.{space, colon}
use Rattle.calendar_count.specs.declared.weekday.Weekday.{Weekday}
use Rattle.parsing_combinator.specs.declared.zone.Zone.{Zone}
use Rattle.parsing_values.specs.Numbers.{HaveNumbers}
use Rattle.parsing_values.specs.declared.fields.Fields.{Fields}
use Rattle.parsing_values.specs.Resolution.{signed_offset_of}
use Rattle.parsing_values.specs.Moment.{moment_of}
use Rattle.parsing_shapes.specs.Named.{SaysNamed}
use Rattle.parsing_places.specs.Windows.{spares_two}
use Rattle.parsing_layout.specs.declared.parts.Part.{Part}
use Rattle.parsing_layout.specs.declared.parts.Field.TheVariants as field
use Rattle.parsing_layout.specs.declared.parts.Part.TheVariants.{Byte, Any, Digits, Sign}
use Rattle.parsing_shapes.specs.declared.shape.Shape.{Shape}
use Rattle.parsing_rfc2822.specs.Direct.{direct}
use Rattle.parsing_rfc2822.specs.Reading.{one_or_two_digits, day, spaced_zone}
use Rattle.parsing_rfc2822_shapes.specs.Names.{HasMonth}

-- ` Jul `, where the letters are bytes of any kind
abbrev pub name_parts : List Part
name_parts = Byte space ∷ Any ∷ Any ∷ Any ∷ Byte space ∷ []

-- ` Jul 2003 `
abbrev pub month_parts : List Part
month_parts = name_parts ++ Digits field.Year 4 ∷ Byte space ∷ []

-- ` Jul 03 `, where the year is any two bytes
abbrev pub short_month_parts : List Part
short_month_parts = name_parts ++ Any ∷ Any ∷ Byte space ∷ []

-- `10:52`
abbrev pub minute_parts : List Part
minute_parts = Digits field.Hour 2 ∷ Byte colon ∷ Digits field.Minute 2 ∷ []

-- `10:52:37`
abbrev pub second_parts : List Part
second_parts = minute_parts ++ Byte colon ∷ Digits field.Second 2 ∷ []

-- ` +0200`
abbrev pub offset_parts : List Part
offset_parts = Byte space ∷ Sign ∷ Digits field.OffsetHour 2 ∷ Digits field.OffsetMinute 2 ∷ []

-- `10:52:37 +0200`
abbrev pub usual_parts : List Part
usual_parts = second_parts ++ offset_parts

-- `10:52 +0200`
abbrev pub minute_zone_parts : List Part
minute_zone_parts = minute_parts ++ offset_parts

-- a day of so many digits, a month and a year, and then a time
abbrev pub from_day : ℕ → List Part → List Part
from_day count time = Digits field.Day count ∷ month_parts ++ time

-- the same with all numbers of the clock and an offset, and a year of two bytes
abbrev pub short_from_day : ℕ → List Part
short_from_day count = Digits field.Day count ∷ short_month_parts ++ usual_parts

-- a shape takes no number of the month, whose letters it lets be any bytes, and has no tail
pub record IsNamed (shape : Shape) : Type 0 where
  pub whole : shape.has_tail ≡ false
  pub spared : spares_two shape.windows 0 ≡ true

-- fields are those of a text that begins with its day and goes on with a time, before which its month and a year from 1900 on are read
pub record SaysDate (count : ℕ) (time : List Part) (text rest : List ℕ) (fields : Fields) : Type 0 where
  pub month : ℕ
  pub said : SaysNamed (from_day count time) month text rest fields
  pub there : HasMonth (drop count text) month
  pub enough : 1900 ≤ fields.year

-- the digits of the day begin a text, and before it stands a weekday or nothing
pub record BeginsDay (input text : List ℕ) : Type 0 where
  pub weekday_is : Option Weekday
  pub reads : (number : ℕ) (rest : List ℕ) → one_or_two_digits text ≡ Some (number, rest) → day false input ≡ Ok ((weekday_is, number), rest)

-- a text that begins with its day, whatever stands before it, names the moment of the fields
abbrev pub SaysFields : List ℕ → Fields → Type 0
SaysFields text fields = (input : List ℕ) → BeginsDay input text → direct input ≡ Ok (moment_of fields)

-- fields have what other ones have, with a zone that is all of the bytes
pub record HasZone (date : Fields) (bytes : List ℕ) (fields : Fields) : Type 0 where
  pub zone_is : Zone
  pub in_zone : spaced_zone false bytes ≡ Ok (zone_is, [])
  pub minutes_are : signed_offset_of zone_is.is_negative zone_is.hours zone_is.minutes ≡ Ok (pos 60 *ℤ fields.offset)
  pub numbers : HaveNumbers fields date.year date.month date.day date.minute date.second date.fraction fields.offset
