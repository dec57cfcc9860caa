-- What lanes take of a whole text, and the moment that it says.
use Rattle.std.specs.Prelude.{◌≡◌, ◌≤◌, ◌<◌, ◌==◌, Ok, ℤ, pos, ◌*ℤ◌, ◌+◌, ◌*◌, ℕ, Bool, true, false, List, [], ◌++◌, get_or, bit_or}
use Rattle.base.specs.Bytes.{hyphen}
use Rattle.parsing_combinator.specs.Places.{HasPair}
use Rattle.parsing_values.specs.Numbers.{HaveNumbers}
use Rattle.parsing_values.specs.declared.fields.Fields.{Fields}
use Rattle.parsing_places.specs.Last.{HaveEnd}
use Rattle.parsing_places.specs.Windows.{Taken}
use Rattle.parsing_places.specs.declared.shape.Window.{Window}
use Rattle.parsing_values.specs.Resolution.{signed_offset_of}
use Rattle.parsing_layout.specs.Layout.{Values, Says}
use Rattle.parsing_layout.specs.declared.parts.Part.{Part}
use Rattle.parsing_shapes.specs.Tail.{fraction_parts}
use Rattle.parsing_layout.specs.declared.parts.Field.TheVariants as field
use Rattle.parsing_shapes.specs.declared.shape.Shape.{Shape}

-- four sums of the numbers n that lanes take of a text, those of an offset of a window that ends at a place of it
pub record AreTaken (s : Shape) (last : Window) (text : List ℕ) (at : ℕ) (days minutes offsets seconds : ℕ) : Type 0 where
  pub front : List ℕ
  pub end : List ℕ
  pub both : List ℕ
  pub n : List ℕ
  pub front_taken : Taken s.windows text front
  pub end_taken : HaveEnd last text at end
  pub joined : (k : ℕ) → k < 16 → get_or both k 0 ≡ bit_or (get_or front k 0) (get_or end k 0)
  pub paired : (j : ℕ) → j < 8 → get_or both (2 * j) 0 ≤ 9 → get_or both (2 * j + 1) 0 ≤ 9 → get_or n (2 * j) 0 ≡ get_or both (2 * j) 0 * 10 + get_or both (2 * j + 1) 0
  pub days_are : days ≡ get_or n 0 0 + 64 * get_or n 2 0
  pub minutes_are : minutes ≡ 60 * get_or n 4 0 + get_or n 6 0
  pub offsets_are : offsets ≡ 60 * get_or n 8 0 + get_or n 10 0
  pub seconds_are : seconds ≡ get_or n 12 0 + 64 * get_or n 14 0

-- the digits of a year stand at a place, and sums are within what lanes give
pub record AreInRange (text : List ℕ) (year days offsets seconds : ℕ) : Type 0 where
  pub century : HasPair text year
  pub last_two : HasPair text (year + 2)
  pub days_few : days < 16_384
  pub offsets_few : offsets < 1440
  pub seconds_few : seconds < 3840

-- the minutes of an offset, which are none in UTC
abbrev pub HasOffset : Bool → Values → ℤ → Type 0
HasOffset true v o = signed_offset_of false 0 0 ≡ Ok (pos 60 *ℤ o)
HasOffset false v o = (v field.OffsetHour ≤ 23) × (signed_offset_of (v field.Sign == hyphen) (v field.OffsetHour) (v field.OffsetMinute) ≡ Ok (pos 60 *ℤ o))

-- fields are those of a text that says a layout
pub record SaysMoment (is_utc : Bool) (parts : List Part) (text : List ℕ) (f : Fields) : Type 0 where
  pub values : Values
  pub says : Says parts text values []
  pub numbers : HaveNumbers f (values field.Year) (values field.Month) (values field.Day) (values field.Hour * 60 + values field.Minute) (values field.Second) (values field.Nanosecond) f.offset
  pub hour_few : values field.Hour ≤ 23
  pub minute_few : values field.Minute ≤ 59
  pub fraction_few : values field.Nanosecond < 1_000_000_000
  pub offset_is : HasOffset is_utc values f.offset

-- after the layout there is a point with digits, or none of them, and then a zone
pub record SaysTailed (front : List Part) (is_utc : Bool) (zone : List Part) (text : List ℕ) (f : Fields) : Type 0 where
  pub bytes : ℕ
  pub more : bytes ≡ 1 → ⊥
  pub moment : SaysMoment is_utc (front ++ (fraction_parts bytes ++ zone)) text f
  pub none : bytes ≡ 0 → moment.values field.Nanosecond ≡ 0
