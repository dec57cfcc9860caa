-- The fields whose numbers parts say.
use Rattle.std.specs.Prelude.{ℕ, ◌==◌, ◌||◌, ◌&&◌, not, Bool, true, false, List, [], ◌∷◌, Option, Some, None}
use Rattle.parsing_layout.specs.Layout.{Field, Part, field_of}
use Rattle.parsing_layout.specs.declared.parts.Field.TheVariants as field

-- the place of each field: no two have one
abbrev pub place_of : Field → ℕ
place_of field.Month = 0
place_of field.Day = 1
place_of field.Weekday = 2
place_of field.Hour = 3
place_of field.HourOfHalf = 4
place_of field.Half = 5
place_of field.Minute = 6
place_of field.Second = 7
place_of field.Sign = 8
place_of field.OffsetHour = 9
place_of field.OffsetMinute = 10
place_of field.IsoWeek = 11
place_of field.OrdinalTens = 12
place_of field.OrdinalOnes = 13
place_of field.Year = 14
place_of field.Nanosecond = 15
place_of field.Unix = 16

-- whether a part says the number of a field
abbrev pub is_of : Field → Option Field → Bool
is_of f None = false
is_of f (Some g) = place_of g == place_of f

-- some fields
abbrev pub Said : Type 0
Said = Field → Bool

-- those whose numbers parts say
abbrev pub fields_of : List Part → Said
fields_of [] f = false
fields_of (p ∷ ps) f = is_of f (field_of p) || fields_of ps f

-- a part says the number of a field that one of these says
abbrev pub says_again : List Part → Option Field → Bool
says_again ps None = false
says_again ps (Some f) = fields_of ps f

-- no field twice
abbrev pub are_apart : List Part → Bool
are_apart [] = true
are_apart (p ∷ ps) = not (says_again ps (field_of p)) && are_apart ps
