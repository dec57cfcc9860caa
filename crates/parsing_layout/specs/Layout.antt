-- Layouts: parts that stand one after another in a text, and what a text that has them says.
use Rattle.std.specs.Prelude.{◌≡◌, ℕ, ◌+◌, Bool, List, [], ◌∷◌, take, drop, Option, Some, None, option_map, nat_le, if◌then◌else◌}
use Rattle.calendar_count.specs.Month.{month_number}
use Rattle.calendar_count.specs.Weekday.{days_from_monday}
use Rattle.parsing_combinator.specs.Pieces.{Piece, digits, byte, any_byte, sign, digit_count, nanoseconds_of}
use Rattle.parsing_combinator.specs.Shape.{taken, digits_between, spaced_between, fraction_between}
use Rattle.parsing_combinator.specs.Names.{named, short_months, long_months, short_weekdays, long_weekdays, periods}
use Rattle.calendar_count.specs.declared.weekday.Weekday.{Weekday}
pub use Rattle.parsing_layout.specs.declared.parts.Field.{Field}
use Rattle.parsing_layout.specs.declared.parts.Field.TheVariants as field
pub use Rattle.parsing_layout.specs.declared.parts.Names.{Names}
use Rattle.parsing_layout.specs.declared.parts.Names.TheVariants as names
pub use Rattle.parsing_layout.specs.declared.parts.Part.{Part}
use Rattle.parsing_layout.specs.declared.parts.Part.TheVariants as part

-- what the numbers of a text are, by what they mean
abbrev pub Values : Type 0
Values = Field → ℕ

-- ---- what each part reads

-- a name as a number: a month from 1, a weekday from 1 on Monday, a half of the day from 0
abbrev pub weekday_number : Weekday → ℕ
weekday_number w = days_from_monday w + 1

abbrev pub half_number : Bool → ℕ
half_number b = if b then 1 else 0

-- what a piece tells, as a number
abbrev pub as_number : {A : Type 0} → (A → ℕ) → Piece A → Piece ℕ
as_number f piece bytes = option_map (λ x. (f x.0, x.1)) (piece bytes)

abbrev pub name_piece : Names → Bool → Piece ℕ
name_piece names.ShortMonth case_counts = as_number month_number (taken (named case_counts short_months))
name_piece names.LongMonth case_counts = as_number month_number (taken (named case_counts long_months))
name_piece names.ShortWeekday case_counts = as_number weekday_number (taken (named case_counts short_weekdays))
name_piece names.LongWeekday case_counts = as_number weekday_number (taken (named case_counts long_weekdays))
name_piece names.HalfOfDay case_counts = as_number half_number (taken (named case_counts periods))

abbrev pub name_field : Names → Field
name_field names.ShortMonth = field.Month
name_field names.LongMonth = field.Month
name_field names.ShortWeekday = field.Weekday
name_field names.LongWeekday = field.Weekday
name_field names.HalfOfDay = field.Half

-- so many digits, as the nanoseconds of a fraction of a second
unfoldable pub exact_fraction : ℕ → Piece ℕ
exact_fraction n bytes = if nat_le n (digit_count bytes) then Some (nanoseconds_of (take n bytes), drop n bytes) else None

-- what a part reads
abbrev pub piece_of : Part → Piece ℕ
piece_of (part.Byte c) = as_number (λ _. 0) (byte c)
piece_of part.Any = as_number (λ _. 0) any_byte
piece_of (part.Digits f n) = digits n
piece_of (part.Bare f) = taken (digits_between 1 2)
piece_of (part.Spaced f) = taken (spaced_between 2 2)
piece_of (part.Name n case_counts) = name_piece n case_counts
piece_of part.Sign = sign
piece_of (part.Fraction n) = exact_fraction n
piece_of part.OpenFraction = taken (fraction_between 1 32)
piece_of (part.Run f most) = taken (digits_between 1 most)

-- the field whose number a part says, if it says one
abbrev pub field_of : Part → Option Field
field_of (part.Byte c) = None
field_of part.Any = None
field_of (part.Digits f n) = Some f
field_of (part.Bare f) = Some f
field_of (part.Spaced f) = Some f
field_of (part.Name n case_counts) = Some (name_field n)
field_of part.Sign = Some field.Sign
field_of (part.Fraction n) = Some field.Nanosecond
field_of part.OpenFraction = Some field.Nanosecond
field_of (part.Run f most) = Some f

-- what the values say of a part: a literal says nothing, which is 0
abbrev pub value_at : Option Field → Values → ℕ
value_at None v = 0
value_at (Some f) v = v f

abbrev pub value_of : Part → Values → ℕ
value_of p v = value_at (field_of p) v

-- ---- what a text says

-- it begins with the parts, whose numbers are these, and this stands after them
abbrev pub Says : List Part → List ℕ → Values → List ℕ → Type 0
Says [] bytes v rest = bytes ≡ rest
Says (p ∷ ps) bytes v rest = (after : List ℕ) × (piece_of p bytes ≡ Some (value_of p v, after)) × Says ps after v rest

-- ---- parts of fixed widths

-- how many bytes a part has, where that is fixed
abbrev pub width : Part → ℕ
width (part.Byte c) = 1
width part.Any = 1
width (part.Digits f n) = n
width (part.Bare f) = 0
width (part.Spaced f) = 2
width (part.Name n case_counts) = 3
width part.Sign = 1
width (part.Fraction n) = n
width part.OpenFraction = 0
width (part.Run f most) = 0

abbrev pub length_of : List Part → ℕ
length_of [] = 0
length_of (p ∷ ps) = width p + length_of ps

-- parts that some machine takes at their places, from one on
abbrev pub Fits : (Part → ℕ → Type 0) → List Part → ℕ → Type 0
Fits Takes [] at = Unit {0}
Fits Takes (p ∷ ps) at = Takes p at × Fits Takes ps (at + width p)
