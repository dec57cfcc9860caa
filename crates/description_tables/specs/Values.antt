-- What the values of modifiers mean.
use Rattle.std.specs.Prelude.{ℕ, ◌&&◌, Bool, true, false, List, [], ◌∷◌, Option, Some, None, if◌then◌else◌, nat_lt, codes}
use Rattle.std.specs.Char.{is_ascii_digit}
use Rattle.std.specs.List.{list_all}
use Rattle.std.specs.Str.Parse.{digits_value}
use Rattle.description_modifiers.specs.declared.choices.Padding.{Padding}
use Rattle.description_modifiers.specs.declared.choices.Padding.TheVariants as padding
use Rattle.description_modifiers.specs.declared.choices.YearRange.{YearRange}
use Rattle.description_modifiers.specs.declared.choices.YearRange.TheVariants as range
use Rattle.description_modifiers.specs.declared.choices.SubsecondDigits.{SubsecondDigits}
use Rattle.description_modifiers.specs.declared.choices.SubsecondDigits.TheVariants as digits
use Rattle.description_modifiers.specs.declared.choices.UnixTimestampPrecision.{UnixTimestampPrecision}
use Rattle.description_modifiers.specs.declared.choices.UnixTimestampPrecision.TheVariants as unit
use Rattle.description_modifiers.specs.declared.choices.TrailingInput.{TrailingInput}
use Rattle.description_modifiers.specs.declared.choices.TrailingInput.TheVariants as trailing
use Rattle.description_tables.specs.Lookup.{Table}
use Rattle.description_tables.specs.declared.names.Name.{Name}
use Rattle.description_tables.specs.declared.names.Name.TheVariants as name
use Rattle.description_tables.specs.declared.values.Repr.{Repr}
use Rattle.description_tables.specs.declared.values.Repr.TheVariants as repr

abbrev pub paddings : Table Padding
paddings = (codes "zero", padding.Zero) ∷ (codes "space", padding.Space) ∷ (codes "none", padding.None) ∷ []

abbrev pub flags : Table Bool
flags = (codes "true", true) ∷ (codes "false", false) ∷ []

-- whether the year is that of the week
abbrev pub bases : Table Bool
bases = (codes "calendar", false) ∷ (codes "iso_week", true) ∷ []

-- whether the sign must be written
abbrev pub signs : Table Bool
signs = (codes "automatic", false) ∷ (codes "mandatory", true) ∷ []

abbrev pub ranges : Table YearRange
ranges = (codes "standard", range.Standard) ∷ (codes "extended", range.Extended) ∷ []

-- whether capitals are written
abbrev pub cases : Table Bool
cases = (codes "upper", true) ∷ (codes "lower", false) ∷ []

abbrev pub digit_counts : Table SubsecondDigits
digit_counts =
    (codes "1+", digits.OneOrMore) ∷ (codes "1", digits.One) ∷ (codes "2", digits.Two) ∷ (codes "3", digits.Three) ∷ (codes "4", digits.Four) ∷
    (codes "5", digits.Five) ∷ (codes "6", digits.Six) ∷ (codes "7", digits.Seven) ∷ (codes "8", digits.Eight) ∷ (codes "9", digits.Nine) ∷ []

abbrev pub precisions : Table UnixTimestampPrecision
precisions =
    (codes "second", unit.Second) ∷ (codes "millisecond", unit.Millisecond) ∷
    (codes "microsecond", unit.Microsecond) ∷ (codes "nanosecond", unit.Nanosecond) ∷ []

abbrev pub trailing_inputs : Table TrailingInput
trailing_inputs = (codes "prohibit", trailing.Prohibit) ∷ (codes "discard", trailing.Discard) ∷ []

-- each component has words of its own
abbrev pub reprs : Name → Table Repr
reprs name.Month = (codes "numerical", repr.Numerical) ∷ (codes "long", repr.Long) ∷ (codes "short", repr.Short) ∷ []
reprs name.Weekday = (codes "short", repr.Short) ∷ (codes "long", repr.Long) ∷ (codes "sunday", repr.Sunday) ∷ (codes "monday", repr.Monday) ∷ []
reprs name.WeekNumber = (codes "iso", repr.Iso) ∷ (codes "sunday", repr.Sunday) ∷ (codes "monday", repr.Monday) ∷ []
reprs name.Year = (codes "full", repr.Full) ∷ (codes "century", repr.Century) ∷ (codes "last_two", repr.LastTwo) ∷ []
reprs name.Hour = (codes "24", repr.TwentyFour) ∷ (codes "12", repr.Twelve) ∷ []
reprs n = []

-- a number from 1 to 65535 in ASCII digits
unfoldable pub count_of : List ℕ → Option ℕ
count_of word =
    if list_all is_ascii_digit word && (nat_lt 0 (digits_value 10 word) && nat_lt (digits_value 10 word) 65536) then Some (digits_value 10 word)
    else None
