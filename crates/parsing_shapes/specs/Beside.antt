-- What of a text is read beside the lanes of a shape.
use Rattle.std.specs.Prelude.{◌≡◌, ◌≤◌, ◌&&◌, ◌==◌, ◌+◌, ◌/◌, ◌%◌, ℕ, Bool, true, false, nat_le, List, drop, get_or, length, Option, Some, None, is_some}
use Rattle.parsing_places.specs.declared.windows.Windows.{Windows}
use Rattle.parsing_layout.specs.Layout.{piece_of, width}
use Rattle.parsing_layout.specs.declared.parts.Field.{Field}
use Rattle.parsing_layout.specs.declared.parts.Part.{Part}
use Rattle.parsing_places.specs.Windows.{lets_at, spares_one, takes_one}
use Rattle.parsing_shapes.specs.Shape.{is_at}
use Rattle.parsing_layout.specs.declared.parts.Field.TheVariants as field
use Rattle.parsing_layout.specs.declared.parts.Names.TheVariants as names
use Rattle.parsing_layout.specs.declared.parts.Part.TheVariants as part
use Rattle.parsing_shapes.specs.declared.front.Beside.{Beside}
use Rattle.parsing_shapes.specs.declared.shape.Shape.{Shape}

-- whether the number of a field is
abbrev pub is_beside : Beside → Option Field → Bool
is_beside b (Some field.Month) = is_some b.month
is_beside b (Some field.Day) = is_some b.day
is_beside b (Some field.Weekday) = is_some b.weekday
is_beside b (Some field.Nanosecond) = is_some b.fraction
is_beside b other = false

-- whether a part stands where its number is read
abbrev pub is_fraction_at : Option (ℕ × ℕ) → ℕ → ℕ → Bool
is_fraction_at None count at = false
is_fraction_at (Some x) count at = (x.0 == at) && (x.1 == count)

abbrev pub stands : Beside → Part → ℕ → Bool
stands b (part.Name names.ShortMonth true) at = is_at b.month at
stands b (part.Spaced field.Day) at = is_at b.day at
stands b (part.Name names.ShortWeekday true) at = is_at b.weekday at
stands b (part.Fraction count) at = is_fraction_at b.fraction count at
stands b other at = false

-- ---- room for what is read

-- for a name and a byte after it
abbrev pub has_room : ℕ → Option ℕ → Bool
has_room length None = true
has_room length (Some place) = nat_le (place + 4) length

-- windows let a space or a digit stand where a day does, and take the digit after it
abbrev pub takes_ones : Windows → Option ℕ → Bool
takes_ones w None = true
takes_ones w (Some place) = spares_one w 2 && (lets_at w place 32 25 && takes_one w 3 (place + 1) 9)

-- for the digits of a fraction, one to eight, which end at the ninth place or later
abbrev pub has_digits : ℕ → Option (ℕ × ℕ) → Bool
has_digits length None = true
has_digits length (Some x) = nat_le 1 x.1 && (nat_le x.1 8 && (nat_le 8 (x.0 + x.1) && nat_le (x.0 + x.1) length))

abbrev pub is_ready : Shape → Beside → Bool
is_ready s b = has_room s.length b.month && (has_room s.length b.weekday && (takes_ones s.windows b.day && has_digits s.length b.fraction))

-- ---- what is read

-- a number is that of a part at its place, or where it has none, this one
abbrev pub ReadAt : Option ℕ → Part → List ℕ → ℕ → ℕ → Type 0
ReadAt None p text other n = n ≡ other
ReadAt (Some place) p text other n = piece_of p (drop place text) ≡ Some (n, drop (place + width p) text)

-- a fraction was found, or is read at its place, or there is none
abbrev pub IsFraction : Option ℕ → Option (ℕ × ℕ) → List ℕ → ℕ → Type 0
IsFraction (Some found) place text n = n ≡ found
IsFraction None None text n = n ≡ 0
IsFraction None (Some x) text n = ReadAt (Some x.0) (part.Fraction x.1) text 0 n

-- the month, the day and the weekday of a text, by a sum of lanes and what is beside it
pub record AreRead (b : Beside) (text : List ℕ) (days month day weekday : ℕ) : Type 0 where
  pub month_is : ReadAt b.month (part.Name names.ShortMonth true) text (days % 64) month
  pub day_is : ReadAt b.day (part.Spaced field.Day) text (days / 64) day
  pub weekday_is : ReadAt b.weekday (part.Name names.ShortWeekday true) text (days / 64) weekday

-- a digit stands after a place, and a byte from a space to a digit at it
pub record HasSpaced (text : List ℕ) (place : ℕ) : Type 0 where
  pub room : place + 2 ≤ length text
  pub first_low : 32 ≤ get_or text place 0
  pub first_high : get_or text place 0 ≤ 57
  pub second_low : 48 ≤ get_or text (place + 1) 0
  pub second_high : get_or text (place + 1) 0 ≤ 57
