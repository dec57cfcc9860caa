-- What of a moment parts say.
use Rattle.std.specs.Prelude.{◌≡◌, true, false}
use Rattle.parsing_layout.specs.Said.{Said}
use Rattle.parsing_layout.specs.declared.parts.Field.TheVariants as field
use Rattle.parsing_item_parts.specs.declared.listed.Kind.{Kind}

-- a year has to be there, and what is left out can't be
pub record SayDate (k : Kind) (certain possible : Said) : Type 0 where
  pub year : certain field.Year ≡ true
  pub unix : possible field.Unix ≡ false
  pub hour : k.is_half ≡ true → possible field.Hour ≡ false
  pub second : k.has_second ≡ false → possible field.Second ≡ false
  pub fraction : k.has_second ≡ false → possible field.Nanosecond ≡ false
  pub offset_hour : k.has_offset ≡ false → possible field.OffsetHour ≡ false
  pub offset_minute : k.has_offset ≡ false → possible field.OffsetMinute ≡ false
