-- What parts have to say, and where they stand, for a line to be read by places.
use Rattle.std.specs.Prelude.{◌≡◌, ◌≤◌, ◌&&◌, ◌||◌, ◌∷◌, ◌+◌, ℕ, Bool, true, false, not, List, take, drop, Option, is_some}
use Rattle.parsing_shapes.specs.Front.{fits_beside}
use Rattle.parsing_shapes.specs.End.{begins_apart, fits_end, is_end_bounded, spares_clock}
use Rattle.parsing_layout.specs.Layout.{length_of}
use Rattle.parsing_layout.specs.Said.{Said}
use Rattle.parsing_shapes.specs.declared.front.Beside.{Beside}
use Rattle.parsing_shapes.specs.declared.front.Front.{Front}
use Rattle.parsing_layout.specs.declared.parts.Part.{Part}
use Rattle.parsing_layout.specs.declared.parts.Field.TheVariants as field
use Rattle.parsing_layout.specs.declared.parts.Part.TheVariants as part
use Rattle.parsing_places.specs.declared.last.LastBytes.{LastBytes}
use Rattle.parsing_plan.specs.declared.places.Back.{Back}

-- ---- what parts say

-- a day, an hour, a minute and a second
pub record SayClock (has : Said) : Type 0 where
  pub year : has field.Year ≡ true
  pub month : has field.Month ≡ true
  pub day : has field.Day ≡ true
  pub hour : has field.Hour ≡ true
  pub minute : has field.Minute ≡ true
  pub second : has field.Second ≡ true

-- nothing that is no part of these
pub record SayNoOthers (has : Said) : Type 0 where
  pub week : has field.IsoWeek ≡ false
  pub tens : has field.OrdinalTens ≡ false
  pub ones : has field.OrdinalOnes ≡ false
  pub half_hour : has field.HourOfHalf ≡ false
  pub half : has field.Half ≡ false
  pub unix : has field.Unix ≡ false

-- a moment, with what is read beside lanes, a fraction after them, and an offset, if there is one, and nothing else
pub record SayMoment (b : Beside) (back : Option Back) (has : Said) : Type 0 where
  pub clock : SayClock has
  pub others : SayNoOthers has
  pub weekday : has field.Weekday ≡ is_some b.weekday
  pub nanosecond : has field.Nanosecond ≡ (is_some b.fraction || is_some back)
  pub offset_hour : has field.OffsetHour ≡ b.has_offset
  pub offset_minute : has field.OffsetMinute ≡ b.has_offset

-- ---- where parts stand

-- so many parts stand before a fraction, and other parts after it
pub record IsSplit (front : Front) (count : ℕ) (last : LastBytes) (ps : List Part) : Type 0 where
  pub fraction : drop count ps ≡ part.OpenFraction ∷ drop (count + 1) ps
  pub tail : front.shape.has_tail ≡ true
  pub one : is_some front.beside.fraction ≡ false
  pub fits : fits_beside front.shape front.beside (take count ps) ≡ true
  pub ends : fits_end last.window (drop (count + 1) ps) ≡ true
  pub length : last.length ≡ length_of (drop (count + 1) ps)
  pub apart : begins_apart (drop (count + 1) ps) ≡ true
  pub clock : spares_clock last.window ≡ true
  pub offset : is_end_bounded last.window front.beside.has_offset ≡ true

-- whether nothing is read beside lanes, but for an offset
abbrev pub are_numbers : Beside → Bool
are_numbers b = not (is_some b.month) && (not (is_some b.day) && (not (is_some b.weekday) && not (is_some b.fraction)))

-- whether nothing but the name of a month is read beside lanes, and an offset is written
abbrev pub is_plain : Beside → Bool
is_plain b = b.has_offset && (is_some b.month && not (is_some b.day || (is_some b.weekday || is_some b.fraction)))

pub record IsPlain (f : Front) (length : ℕ) : Type 0 where
  pub plain : is_plain f.beside ≡ true
  pub whole : f.shape.length ≡ length
  pub long : 16 ≤ length
